-- An image in a volume of a store: when it stands there, and when it is true of what the store holds, whatever a stop
-- may leave. `h` is what the volume holds; the image lies in its first so many sectors.
use Rattle.std.specs.Prelude.{◌≡◌, ℕ, ◌+◌, ◌*◌, ◌/◌, ◌<◌, ◌≤◌, ◌⊎◌, List, length, Option, Some}
use Rattle.sm_base.specs.Numbers.{first}
use Rattle.sm_base.specs.declared.names.Name.{Name}
use Rattle.sm_base.specs.declared.sizes.Geometry.{Geometry}
use Rattle.sm_disk.specs.Held.{Held, Allows, reads}
use Rattle.vg_volumes.specs.Stored.{Stored, sectors_in, held_in}
use Rattle.vhd_fields.specs.declared.footers.Footer.{Footer}
use Rattle.vhd_map.specs.Places.{blank}
use Rattle.vhd_map.specs.Slots.{slot_of, top_of}
use Rattle.vhd_layout.specs.Layouts.{Sectors, Layout, layout_of, entry, code, entries_in_sectors}
use Rattle.vhd_layout.specs.Images.{IsImage, IsValid}
use Rattle.vhd_volumes.specs.declared.heads.Head.{Head}

-- the sectors of a disk, by its footer
abbrev pub disk_sectors : Footer → ℕ
disk_sectors footer = footer.current / 512

-- the blocks of a disk, by its footer
abbrev pub disk_blocks : Geometry → Footer → ℕ
disk_blocks g footer = disk_sectors footer / g.block

-- where the parts of the image stand that lies in the first so many sectors of its volume
abbrev pub layout_in : Geometry → Footer → ℕ → Layout
layout_in g footer sectors = layout_of g.block g.entries (disk_blocks g footer) sectors

-- so many slots and the footer have room in so many sectors
abbrev pub HasRoomFor : Geometry → ℕ → ℕ → Type 0
HasRoomFor g slots sectors = first g.entries + slots * (1 + g.block) + 1 ≤ sectors

-- The image stands in so many sectors: its map has the repository's number of entries, its header the repository's
-- block, its size is a whole number of blocks from 1 to the number of entries, each block that has a slot is one of
-- these, and its slots have room.
pub record IsStanding (g : Geometry) (sectors : ℕ) (head : Head) (m : List (Option ℕ)) : Type 0 where
  pub entries : length m ≡ g.entries
  pub block : head.header.block ≡ 512 * g.block
  pub size : head.footer.current ≡ 512 * (disk_blocks g head.footer * g.block)
  pub least : 1 ≤ disk_blocks g head.footer
  pub most : disk_blocks g head.footer ≤ g.entries
  pub sized : (b slot : ℕ) → slot_of m b ≡ Some slot → b < disk_blocks g head.footer
  pub room : HasRoomFor g (top_of m) sectors

-- whatever a stop may leave holds a valid image
abbrev pub IsAlwaysValid : Layout → Held → Type 0
IsAlwaysValid l h = (v : Sectors) → Allows l.sectors h v → IsValid l.block l.entries l.sectors v

-- whatever a stop may leave names a slot for a block only where the map has it
abbrev pub IsWithinMap : Layout → Held → (ℕ → Option ℕ) → Type 0
IsWithinMap l h m = (v : Sectors) → Allows l.sectors h v → (b : ℕ) → b < entries_in_sectors l → (entry v b ≡ blank) ⊎ (entry v b ≡ code l (m b))

-- The image with this footer, header and map is true of what is held: a read gives it, whatever a stop may leave is
-- valid, and names no slot that the map has not.
pub record IsTrueOf (l : Layout) (h : Held) (head : Head) (m : ℕ → Option ℕ) : Type 0 where
  pub now : IsImage l (reads h) head.footer head.header m
  pub valid : IsAlwaysValid l h
  pub within : IsWithinMap l h m

-- the same of a volume of so many sectors, by the repository's sizes
abbrev pub IsTrueIn : Geometry → ℕ → Held → Head → List (Option ℕ) → Type 0
IsTrueIn g sectors h head m = IsTrueOf (layout_in g head.footer sectors) h head (slot_of m)

-- ---- the same in its volume of a store

-- where the parts of the image stand
abbrev pub layout_now : Stored → Head → Layout
layout_now x head = layout_in x.site.geometry head.footer (sectors_in x head.volume)

-- so many slots and the footer have room in the volume
abbrev pub HasRoomIn : Stored → Name → ℕ → Type 0
HasRoomIn x volume slots = HasRoomFor x.site.geometry slots (sectors_in x volume)

-- an image stands in its volume of a store
abbrev pub StandsNow : Stored → Head → List (Option ℕ) → Type 0
StandsNow x head m = IsStanding x.site.geometry (sectors_in x head.volume) head m

-- an image is true of what its volume of a store holds
abbrev pub IsTrueNow : Stored → Head → List (Option ℕ) → Type 0
IsTrueNow x head m = IsTrueIn x.site.geometry (sectors_in x head.volume) (held_in x head.volume) head m
