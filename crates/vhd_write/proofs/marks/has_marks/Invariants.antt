use Rattle.std.proofs.Common.{◌≡◌, ℕ, ◌<◌, true}
use Rattle.vhd_map.specs.Bitmaps.{is_set}
use Rattle.vhd_write.proofs.marks.has_marks.Given as goal

abbrev pub invariant-loop-i : goal.invariant-loop-i
invariant-loop-i l = (k : ℕ) → k < l.i → is_set l.marks k ≡ true → is_set l.bitmap k ≡ true
