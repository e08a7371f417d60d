use Rattle.sm_machine.proofs.Tracked.{tracked_step_keeps_shape}
use Rattle.sm_machine.proofs.LogRoom.{tracked_room}
use Rattle.sm_machine.proofs.laws.tracked_step_keeps_shape.Goals as goal

pub returns : goal.returns
returns c = record { shape = tracked_step_keeps_shape; room = tracked_room }
