use Rattle.sm_standing.proofs.BesideLaws.{beside_sound}
use Rattle.sm_standing.proofs.faults.law_beside.Goals as goal

pub returns : goal.returns
returns c = beside_sound
