use Rattle.std.proofs.Common.{◌≤◌}
use Rattle.vg_meta.proofs.volumes.place_near.Given as goal

abbrev pub invariant-loop-at : goal.invariant-loop-at
invariant-loop-at l = l.near ≤ l.at
