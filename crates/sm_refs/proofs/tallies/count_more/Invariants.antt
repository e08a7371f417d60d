-- The volumes so far have one more.
use Rattle.std.proofs.Common.{◌≡◌, ◌+◌, ◌≤◌, take}
use Rattle.sm_base.specs.declared.names.Name.{Name}
use Rattle.sm_refs.specs.Attached.{tally, one_in}
use Rattle.sm_refs.specs.Rooms.{room_of}
use Rattle.sm_refs.specs.Tallies.{AreAbove}
use Rattle.sm_refs.proofs.tallies.count_more.Given as goal

abbrev pub invariant-volumes : goal.invariant-volumes
invariant-volumes l = record {
  counts : (n : Name) → tally l.counts.entries n ≡ tally l.initial.counts.entries n + one_in (take l.volume-index l.chain) n;
  above : AreAbove l.counts.entries;
  room : room_of l.initial.counts ≤ room_of l.counts;
}
