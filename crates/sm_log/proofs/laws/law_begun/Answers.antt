use Rattle.sm_log.proofs.TellLaws.{tells_begun}
use Rattle.sm_log.proofs.laws.law_begun.Goals as goal

pub returns : goal.returns
returns g c = tells_begun g.S.Shows.after
