use Rattle.std.proofs.Common.{◌≡◌, map}
use Rattle.std.specs.Map.Iter.{deref_pair}
use Rattle.sm_disk.proofs.LeftLaws.{left_of, weights}
use Rattle.sm_disk.proofs.places.Places.left.Given as goal

abbrev pub invariant-loop-place : goal.invariant-loop-place
invariant-loop-place l = record {
  made : l.slots.entries ≡ left_of l.choice 0 (map deref_pair l.yielded);
  count : l.before ≡ weights (map deref_pair l.yielded);
}
