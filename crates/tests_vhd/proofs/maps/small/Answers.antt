use Rattle.std.proofs.Common.{refl, lit≤}
use lib.Count.{ones}
use Rattle.tests_vhd.proofs.maps.small.Goals as goal

pub invariant_of-result : goal.invariant_of-result
unfolding ones
invariant_of-result c = record { in_range = record { extent_power = refl; extent_least = lit≤ tt; extent_most = lit≤ tt; block_power = refl; block_least = lit≤ tt; block_most = lit≤ tt; within = lit≤ tt; entries_least = lit≤ tt; entries_most = lit≤ tt } }
