use Rattle.sm_log.proofs.TellLaws.{tells_more}
use Rattle.sm_log.proofs.laws.law_more.Goals as goal

pub returns : goal.returns
returns g c = tells_more g.S.Shows.after
