-- What reading a volume tells of the image in it.
use Rattle.std.specs.Prelude.{◌≡◌, ℕ, ◌<◌, ◌⊎◌, min, List, Option, Some, MatchOption}
use Rattle.sm_base.specs.declared.faults.OpenFault.{OpenFault}
use Rattle.sm_base.specs.declared.faults.OpenFault.TheVariants.{NoMemory, Device, Damaged}
use Rattle.sm_base.specs.declared.faults.Place.TheVariants.{Image}
use Rattle.sm_base.specs.declared.names.Name.{Name}
use Rattle.sm_base.specs.declared.sizes.Geometry.{Geometry}
use Rattle.sm_disk.specs.Held.{Held, reads}
use Rattle.vg_volumes.specs.Stored.{Faults}
use Rattle.vg_volumes.specs.declared.stores.Store.{Ghosts}
use Rattle.vhd_map.specs.Slots.{slot_of}
use Rattle.vhd_layout.specs.Layouts.{Sectors, Layout, entry, code, entries_in_sectors, slot_count}
use Rattle.vhd_layout.specs.Images.{IsHead, IsImage, IsValid}
use Rattle.vhd_volumes.specs.declared.heads.Head.{Head}
use Rattle.vhd_volumes.specs.Steps.{Holds}
use Rattle.vhd_volumes.specs.Truth.{layout_in}

-- the volume holds an image with this head, for some map
abbrev pub HasImageOf : Layout → Sectors → Head → Type 0
HasImageOf l v head = (m : ℕ → Option ℕ) × IsImage l v head.footer head.header m

-- the number of slots, or that of entries where it is less
abbrev pub few_slots : Layout → ℕ
few_slots l = min l.entries (slot_count l)

-- what a map read off a table is to itself: it has the layout's entries, its blocks with slots are those of the disk, and
-- its slots lie in the image
pub record FitsIn (l : Layout) (m : List (Option ℕ)) : Type 0 where
  pub sized : (b k : ℕ) → slot_of m b ≡ Some k → b < l.blocks
  pub few : (b k : ℕ) → slot_of m b ≡ Some k → k < few_slots l

-- each entry in front of this one is the map's
abbrev pub IsTableTo : ℕ → Layout → Sectors → List (Option ℕ) → Type 0
IsTableTo end l v m = (b : ℕ) → b < end → entry v b ≡ code l (slot_of m b)

-- a read gives the image that is in memory
abbrev pub ReadsAsImage : Geometry → ℕ → Held → Head → List (Option ℕ) → Type 0
ReadsAsImage g sectors h head m = IsImage (layout_in g head.footer sectors) (reads h) head.footer head.header (slot_of m)

-- no valid image lies in so many sectors of the volume
abbrev pub HasNoImage : Geometry → ℕ → Held → Type 0
HasNoImage g sectors h = ¬ IsValid g.block g.entries sectors (reads h)

-- the head of the image there is found, or there is none
abbrev pub IsHeadFound : Geometry → ℕ → Held → Option Head → Type 0
IsHeadFound g sectors h found = MatchOption found (HasNoImage g sectors h)
    (λ head. IsHead (layout_in g head.footer sectors) (reads h) head.footer head.header)

-- the map of the image with this head is found, or there is none
abbrev pub IsMapFound : Geometry → ℕ → Held → Head → Option (List (Option ℕ)) → Type 0
IsMapFound g sectors h head found = MatchOption found (¬ HasImageOf (layout_in g head.footer sectors) (reads h) head)
    (IsTableTo (entries_in_sectors (layout_in g head.footer sectors)) (layout_in g head.footer sectors) (reads h))

-- why the image in so many sectors was not opened: no memory, a fault of the device, or there is no valid image
abbrev pub FailsToOpen : {S : Type 0} → Ghosts S → Name → ℕ → OpenFault → S → S → Type 0
FailsToOpen g volume sectors e old new = (e ≡ NoMemory) ⊎ ((e ≡ Device) × Faults g old new)
    ⊎ ((e ≡ Damaged (Image volume)) × Holds g volume (HasNoImage (g.site old).geometry sectors) old)
