use Rattle.sm_machine.proofs.Together.{step_keeps_disks}
use Rattle.sm_machine.proofs.laws.step_keeps_disks.Goals as goal

pub returns : goal.returns
returns c = step_keeps_disks
