use Rattle.sm_machine.proofs.Steps.{step_keeps_shape}
use Rattle.sm_machine.proofs.laws.step_keeps_shape.Goals as goal

pub returns : goal.returns
returns c = step_keeps_shape
