-- Sectors of the disk from one on, of which an image holds each, or none.
use Rattle.std.specs.Prelude.{◌≡◌, ℕ, ◌+◌, ◌*◌, ◌-◌, ◌/◌, ◌%◌, ◌<◌, ◌≤◌, min, not, is_some, true, List, length, Option, Some}
use Rattle.sm_disk.specs.Sectors.{sector}
use Rattle.vhd_map.specs.Slots.{slot_of}
use Rattle.vhd_image.specs.declared.images.Body.{Body}
use Rattle.vhd_image.specs.declared.images.Body.TheVariants.{Raw, Vhd}
use Rattle.vhd_image.specs.declared.reading.Run.{Run}

-- A run of at most so many sectors from this one on: each of its sectors is held, or none; and where it has fewer, the
-- next one is held otherwise. `own` is what the image holds.
pub record IsRunOf (own : ℕ → Option (List ℕ)) (at most : ℕ) (run : Run) : Type 0 where
  pub alike : (k : ℕ) → k < run.sectors → is_some (own (at + k)) ≡ run.held
  pub longest : run.sectors < most → is_some (own (at + run.sectors)) ≡ not run.held

-- so many sectors from this one on, or those up to the end of its block where these are fewer
abbrev pub in_block : ℕ → ℕ → ℕ → ℕ
in_block block at most = min most (block - at % block)

-- how many of them one run may have: in a VHD image those of one block
abbrev pub most_in : ℕ → ℕ → ℕ → Body → ℕ
most_in block at most (Raw volume size) = most
most_in block at most (Vhd head m) = in_block block at most

-- so many sectors from this one on are those of one block, which has a slot
abbrev pub AreInSlot : ℕ → ℕ → ℕ → List (Option ℕ) → Type 0
AreInSlot block at count m = (at % block + count ≤ block) × (is_some (slot_of m (at / block)) ≡ true)

-- so many sectors from this one on stand in a row in the volume: in a VHD image those of one block
abbrev pub AreInRow : ℕ → ℕ → ℕ → Body → Type 0
AreInRow block at count (Raw volume size) = Unit {0}
AreInRow block at count (Vhd head m) = AreInSlot block at count m

-- the image holds each of so many sectors from this one on
abbrev pub AreHeld : (ℕ → Option (List ℕ)) → ℕ → ℕ → Type 0
AreHeld own at count = (k : ℕ) → k < count → is_some (own (at + k)) ≡ true

-- these bytes are the sectors that it holds from this one on
abbrev pub HoldsBytes : (ℕ → Option (List ℕ)) → ℕ → List ℕ → Type 0
HoldsBytes own at bytes = (k : ℕ) → 512 * k < length bytes → own (at + k) ≡ Some (sector bytes k)
