use Rattle.std.proofs.Common.{drop, eqb}
use Rattle.std.specs.List.{IsDistinct}
use Rattle.vg_meta.proofs.free.is_distinct.Given as goal

abbrev pub invariant-loop-at : goal.invariant-loop-at
invariant-loop-at l = IsDistinct eqb (drop l.at l.extents) → IsDistinct eqb l.extents
