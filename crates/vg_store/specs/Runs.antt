-- Where the sectors of a volume stand on the device (this project's format).
use Rattle.std.specs.Prelude.{◌≡◌, ℕ, ◌+◌, ◌*◌, ◌<◌, ◌≤◌, List, length, slice_index}
use Rattle.sm_disk.specs.Held.{Held}
use Rattle.vg_layout.specs.Places.{area_place}
use Rattle.vg_volumes.specs.Volumes.{spot, span}

-- each extent is whole on a device of so many sectors in a layout, and none stands in two places
pub record AreOn (layout size extent : ℕ) (extents : List ℕ) : Type 0 where
  pub within : (i : ℕ) → i < length extents → area_place layout + (slice_index extents i + 1) * extent ≤ size
  pub once : (i j : ℕ) → i < length extents → j < length extents → slice_index extents i ≡ slice_index extents j → i ≡ j

-- so many extents from the one at this index on stand one after the other
abbrev pub AreAdjacent : List ℕ → ℕ → ℕ → Type 0
AreAdjacent extents index many = (k : ℕ) → k < many → slice_index extents (index + k) ≡ slice_index extents index + k

-- so many sectors of a volume from its sector p on, at least one, stand on the device one after the other
pub record IsRun (layout extent : ℕ) (extents : List ℕ) (p place sectors : ℕ) : Type 0 where
  pub some : 0 < sectors
  pub within : p + sectors ≤ span extent extents
  pub begins : place ≡ area_place layout + spot extent extents p
  pub together : (k : ℕ) → k < sectors → spot extent extents (p + k) ≡ spot extent extents p + k

-- in front of the extents of a layout is what was there
pub record SameInFront (layout : ℕ) (old new : Held) : Type 0 where
  pub floor : (p : ℕ) → p < area_place layout → new.floor p ≡ old.floor p
  pub pending : (p : ℕ) → p < area_place layout → new.pending p ≡ old.pending p
