use Rattle.sm_machine.proofs.Refused.{tracked_refused}
use Rattle.sm_machine.proofs.Tracked.{tracked_counted, tracked_disks, tracked_keeps_disks, tracked_reply, unlogged_is_step, untracked_is_step}
use Rattle.sm_machine.proofs.laws.tracked_step_follows.Goals as goal

pub returns : goal.returns
returns c = record {
  disks = tracked_keeps_disks;
  step = record { disks = tracked_disks; answer = tracked_reply; unlogged = unlogged_is_step; untracked = untracked_is_step; refused = tracked_refused; counted = tracked_counted };
}
