-- Which sectors of the disk a write is given, and which bytes it puts at which of them.
use Rattle.std.proofs.Common.{◌≡◌, ℕ, ◌+◌, ◌-◌, ◌*◌, ◌<◌, ◌≤◌, ◌⊎◌, List, length, refl, arith}
use Rattle.sm_disk.specs.Held.{IsIn, Puts}
use Rattle.sm_disk.specs.Sectors.{sector}
use Rattle.sm_disk.proofs.HeldLaws.{in_or_not}
use Rattle.vhd_layout.specs.Layouts.{Layout}
use Rattle.vhd_write.specs.Spans.{IsSpan}
use Rattle.vhd_write.proofs.LoopLaws.{span-block}

-- M says which sectors are given: W puts bytes at these, and at no other
pub record IsGivenBy (W : ℕ → List ℕ → Type 0) (M : ℕ → Type 0) : Type 0 where
  pub inside : (s : ℕ) (v : List ℕ) → W s v → M s
  pub some : (s : ℕ) → M s → (v : List ℕ) × W s v
  pub either : (s : ℕ) → M s ⊎ (M s → ⊥)

-- the given sectors lie in the blocks from `first` to one before `end`
abbrev pub IsWithin : Layout → (ℕ → Type 0) → ℕ → ℕ → Type 0
IsWithin l M first end = (b i : ℕ) → i < l.block → M (b * l.block + i) → (first ≤ b) × (b < end)

-- bytes that are given from a sector on
pub given-puts : (at : ℕ) (from : List ℕ) → IsGivenBy (Puts at from) (IsIn at (length from))
given-puts at from = record {
  inside = λ s v puts. puts.0;
  some = λ s here. (sector from (s - at), (here, refl));
  either = λ s. in_or_not at (length from) s;
}

-- they lie in the blocks of their span
pub span-within : (l : Layout) {at count first end : ℕ} (from : List ℕ) → IsSpan l.block at count first end → length from ≡ 512 * count → IsWithin l (IsIn at (length from)) first end
span-within l from span long b i small here = span-block span b i small (here.0, omega (arith, here.1, long))
