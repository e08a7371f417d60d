-- How the bits of a log are kept: whole sectors of bytes, as they lie on the device.
use Rattle.std.specs.Prelude.{◌≡◌, ℕ, ◌-◌, ◌*◌, ◌/◌, ◌%◌, ◌<◌, ◌≤◌, ◌==◌, if◌then◌else◌, ◌||◌, Bool, true, false, List, length, map}
use Rattle.sm_base.specs.Numbers.{div_up}
use Rattle.common_laws.specs.Lists.{numbers}
use Rattle.vhd_map.specs.Bitmaps.{is_set}
use Rattle.sm_log.specs.Logs.{bit, sector_bits}

-- the first bits of some bytes, so many
abbrev pub bits_in : ℕ → List ℕ → List Bool
bits_in pieces bytes = map (is_set bytes) (numbers 0 pieces)

-- whole sectors, with no bit behind the last piece
pub record AreKept (pieces : ℕ) (bytes : List ℕ) : Type 0 where
  pub long : length bytes ≡ 512 * div_up pieces sector_bits
  pub clear : (k : ℕ) → pieces ≤ k → is_set bytes k ≡ false

-- flags are the bits of some bytes
abbrev pub AreBitsOf : List ℕ → List Bool → Type 0
AreBitsOf bytes flags = (k : ℕ) → bit flags k ≡ is_set bytes k

-- bits, those of one sector, counted from 0, as that sector has them
abbrev pub with_sector : ℕ → List ℕ → List Bool → List Bool
with_sector index sector bits = map (λ k. if k / sector_bits == index then is_set sector (k % sector_bits) else bit bits k) (numbers 0 (length bits))

-- a bit is as it is to be, and the others as they were
pub record IsPut (piece : ℕ) (flag : Bool) (old new : List ℕ) : Type 0 where
  pub long : length new ≡ length old
  pub here : is_set new piece ≡ flag
  pub others : (k : ℕ) → (k ≡ piece → ⊥) → is_set new k ≡ is_set old k

-- the bits from one to before another are set, and the others as they were
pub record AreSet (first end : ℕ) (old new : List ℕ) : Type 0 where
  pub long : length new ≡ length old
  pub inside : (k : ℕ) → first ≤ k → k < end → is_set new k ≡ true
  pub before : (k : ℕ) → k < first → is_set new k ≡ is_set old k
  pub behind : (k : ℕ) → end ≤ k → is_set new k ≡ is_set old k

-- the bits from one to before another are clear, and the others as they were
pub record AreClear (first end : ℕ) (old new : List ℕ) : Type 0 where
  pub long : length new ≡ length old
  pub inside : (k : ℕ) → first ≤ k → k < end → is_set new k ≡ false
  pub before : (k : ℕ) → k < first → is_set new k ≡ is_set old k
  pub behind : (k : ℕ) → end ≤ k → is_set new k ≡ is_set old k

-- the bits from one to before another are the first ones of a sector, and the others as they were
pub record AreFrom (first end : ℕ) (sector old new : List ℕ) : Type 0 where
  pub long : length new ≡ length old
  pub inside : (k : ℕ) → first ≤ k → k < end → is_set new k ≡ is_set sector (k - first)
  pub before : (k : ℕ) → k < first → is_set new k ≡ is_set old k
  pub behind : (k : ℕ) → end ≤ k → is_set new k ≡ is_set old k

-- each bit is set where it was or is in the others
pub record AreEither (others old new : List ℕ) : Type 0 where
  pub long : length new ≡ length old
  pub bits : (k : ℕ) → is_set new k ≡ (is_set old k || is_set others k)

-- the bits from one to before another are all set
abbrev pub AllSet : ℕ → ℕ → List ℕ → Type 0
AllSet first end bytes = (k : ℕ) → first ≤ k → k < end → is_set bytes k ≡ true

-- one of the bits from one to before another is not set
abbrev pub SomeClear : ℕ → ℕ → List ℕ → Type 0
SomeClear first end bytes = (k : ℕ) × (first ≤ k) × (k < end) × (is_set bytes k ≡ false)
