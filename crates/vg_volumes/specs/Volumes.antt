-- A volume is its extents, one after another (this project's format). The extents of a group are one run of
-- sectors, the area: extent i begins at its sector i * extent. Here a volume is read off the area.
use Rattle.std.specs.Prelude.{◌≡◌, ◌≢◌, ℕ, ◌+◌, ◌*◌, ◌/◌, ◌%◌, ◌<◌, ◌≤◌, List, [], length, slice_index, nat_lt, if◌then◌else◌}
use Rattle.sm_disk.specs.Held.{Held, May, reads}

-- the place in the area of a volume's sector p
unfoldable pub spot : ℕ → List ℕ → ℕ → ℕ
spot extent extents p = slice_index extents (p / extent) * extent + p % extent

-- how many sectors a volume has
abbrev pub span : ℕ → List ℕ → ℕ
span extent extents = length extents * extent

-- each extent is whole in an area of so many sectors, and none stands in two places
pub record AreIn (size extent : ℕ) (extents : List ℕ) : Type 0 where
  pub within : (i : ℕ) → i < length extents → (slice_index extents i + 1) * extent ≤ size
  pub once : (i j : ℕ) → i < length extents → j < length extents → slice_index extents i ≡ slice_index extents j → i ≡ j

-- what a volume holds, place by place; nothing at and past its end
unfoldable pub volume : ℕ → List ℕ → Held → Held
volume extent extents area = record {
  floor = λ p. if nat_lt p (span extent extents) then area.floor (spot extent extents p) else [];
  pending = λ p. if nat_lt p (span extent extents) then area.pending (spot extent extents p) else [];
}

-- the sectors of a volume in an image of the area
unfoldable pub piece : ℕ → List ℕ → (ℕ → List ℕ) → ℕ → List ℕ
piece extent extents image p = image (spot extent extents p)

-- a place of the area that no sector of the volume has
abbrev pub IsElsewhere : ℕ → List ℕ → ℕ → Type 0
IsElsewhere extent extents p = (q : ℕ) → q < span extent extents → spot extent extents q ≢ p

-- what is held is the same at each place that the volume has not
pub record SameElsewhere (extent : ℕ) (extents : List ℕ) (old new : Held) : Type 0 where
  pub floor : (p : ℕ) → IsElsewhere extent extents p → new.floor p ≡ old.floor p
  pub pending : (p : ℕ) → IsElsewhere extent extents p → new.pending p ≡ old.pending p

-- at each of these places a read gives what it gave, and a stop leaves nothing that it could not leave before
pub record KeepsAt (P : ℕ → Type 0) (old new : Held) : Type 0 where
  pub reads : (p : ℕ) → P p → reads new p ≡ reads old p
  pub may : (p : ℕ) (v : List ℕ) → P p → May new p v → May old p v

-- so at each place that the volume has not
abbrev pub KeepsElsewhere : ℕ → List ℕ → Held → Held → Type 0
KeepsElsewhere extent extents old new = KeepsAt (λ p. IsElsewhere extent extents p) old new
