use Rattle.std.proofs.Common.{◌≡◌, ℕ, ◌<◌, ◌⊎◌, true}
use Rattle.vhd_map.specs.Bitmaps.{is_set}
use Rattle.vhd_write.proofs.marks.add_marks.Given as goal

abbrev pub invariant-loop-i : goal.invariant-loop-i
invariant-loop-i l = record {
  set : (k : ℕ) → k < l.i → is_set l.marks k ≡ true → is_set l.bitmap k ≡ true;
  others : (k : ℕ) → (is_set l.bitmap k ≡ is_set l.fn.bitmap k) ⊎ ((is_set l.bitmap k ≡ true) × (k < l.i) × (is_set l.marks k ≡ true));
}
