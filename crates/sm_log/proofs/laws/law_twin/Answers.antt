use Rattle.sm_log.proofs.TellLaws.{tells_twin}
use Rattle.sm_log.proofs.laws.law_twin.Goals as goal

pub returns : goal.returns
returns g c = tells_twin g.S.Shows.after
