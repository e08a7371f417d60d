use Rattle.std.proofs.Common.{◌≡◌, ℕ, ◌<◌, ◌≤◌, ◌⊎◌, true}
use Rattle.vhd_map.specs.Bitmaps.{is_set}
use Rattle.vhd_write.proofs.bitmaps.mark.Given as goal

abbrev pub invariant-loop-i : goal.invariant-loop-i
invariant-loop-i l = record {
  set : (k : ℕ) → l.first ≤ k → k < l.i → is_set l.bitmap k ≡ true;
  others : (k : ℕ) → (k < l.first) ⊎ (l.i ≤ k) → is_set l.bitmap k ≡ is_set l.fn.bitmap k;
}
