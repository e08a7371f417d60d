use Rattle.std.proofs.Common.{◌≡◌, ◌≤◌, length}
use Rattle.std.specs.Vec.{vec_capacity}
use Rattle.vg_extents.proofs.CountLaws.{without_mark}
use Rattle.sm_tracking.proofs.rooms.take_unmarked.Given as goal

abbrev pub invariant-loop-extent : goal.invariant-loop-extent
invariant-loop-extent l = record {
  free : l.found.items ≡ without_mark l.marks l.extent;
  few : length l.found.items ≤ l.need;
  places : l.need ≤ vec_capacity l.found;
}
