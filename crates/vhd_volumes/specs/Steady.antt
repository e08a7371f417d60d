-- A steady image: true of its volume, with one size, one parent and a sector in each slot, whatever a stop may leave.
use Rattle.std.specs.Prelude.{◌≡◌, ℕ, ◌+◌, ◌<◌, ◌⊎◌, List, Option}
use Rattle.sm_base.specs.declared.sizes.Geometry.{Geometry}
use Rattle.sm_disk.specs.Held.{Held, Allows, May, reads}
use Rattle.vhd_layout.specs.Layouts.{Sectors}
use Rattle.vhd_layout.specs.Images.{IsValid, EachSlotHolds}
use Rattle.vhd_layout.specs.Contents.{size_at, parent_at}
use Rattle.vhd_volumes.specs.declared.heads.Head.{Head}
use Rattle.vhd_volumes.specs.Truth.{IsTrueIn, disk_sectors}

-- whatever a stop may leave at a place is what a read gives
abbrev pub IsQuiet : Held → Type 0
IsQuiet h = (p : ℕ) (v : List ℕ) → May h p v → v ≡ reads h p

-- a sector of an image's head: the copy of the footer, the header, the last sector
abbrev pub IsHeadSector : ℕ → ℕ → Type 0
IsHeadSector sectors p = (p < 3) ⊎ (p + 1 ≡ sectors)

-- The image with this head and map is steady in so many sectors: it is true of what is held, a stop changes no sector
-- of its head, and whatever a stop may leave has a sector in each slot.
pub record IsSteadyIn (g : Geometry) (sectors : ℕ) (h : Held) (head : Head) (m : List (Option ℕ)) : Type 0 where
  pub is_true : IsTrueIn g sectors h head m
  pub still : (p : ℕ) (v : List ℕ) → IsHeadSector sectors p → May h p v → v ≡ reads h p
  pub holding : (v : Sectors) → Allows sectors h v → EachSlotHolds g.block g.entries v

-- what a stop leaves of it: a valid image of this size and this parent, with a sector in each slot
pub record IsLeftImage (g : Geometry) (sectors : ℕ) (head : Head) (v : Sectors) : Type 0 where
  pub valid : IsValid g.block g.entries sectors v
  pub size : size_at sectors v ≡ disk_sectors head.footer
  pub parent : parent_at v ≡ head.header.parent
  pub holding : EachSlotHolds g.block g.entries v
