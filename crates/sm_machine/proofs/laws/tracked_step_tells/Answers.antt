use Rattle.sm_machine.proofs.TrackedTruth.{tracked_step_tells}
use Rattle.sm_machine.proofs.laws.tracked_step_tells.Goals as goal

pub returns : goal.returns
returns c = tracked_step_tells
