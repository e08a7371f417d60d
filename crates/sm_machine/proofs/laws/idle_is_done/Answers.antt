use Rattle.sm_machine.proofs.Idle.{idle}
use Rattle.sm_machine.proofs.laws.idle_is_done.Goals as goal

pub returns : goal.returns
returns c = record { done = idle }
