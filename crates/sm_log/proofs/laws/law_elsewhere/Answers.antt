use Rattle.sm_log.proofs.TellLaws.{tells_elsewhere}
use Rattle.sm_log.proofs.laws.law_elsewhere.Goals as goal

pub returns : goal.returns
returns g c = tells_elsewhere g.S.Shows.before g.S.Shows.after
