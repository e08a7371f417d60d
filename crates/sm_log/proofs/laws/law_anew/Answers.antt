use Rattle.sm_log.proofs.TellLaws.{tells_anew}
use Rattle.sm_log.proofs.laws.law_anew.Goals as goal

pub returns : goal.returns
returns g c = tells_anew g.S.Shows.after
