use Rattle.sm_log.proofs.LineLaws.{tells_guest}
use Rattle.sm_log.proofs.laws.law_guest.Goals as goal

pub returns : goal.returns
returns g c = tells_guest g.S.Shows.before g.S.Shows.after
