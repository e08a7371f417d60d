-- What a new image holds while it is filled: one block in memory, the others in their slots of the volume.
use Rattle.std.specs.Prelude.{◌≡◌, ◌≢◌, ℕ, ◌+◌, ◌*◌, ◌/◌, ◌%◌, ◌<◌, ◌==◌, if◌then◌else◌, Bool, true, false, List, length, Option, None, Some, slice_set}
use Rattle.sm_base.specs.Numbers.{first}
use Rattle.sm_base.specs.declared.sizes.Geometry.{Geometry}
use Rattle.sm_disk.specs.Held.{reads}
use Rattle.sm_disk.specs.Sectors.{sector, zeros}
use Rattle.vg_volumes.specs.Stored.{stored, held_in}
use Rattle.vg_volumes.specs.declared.stores.Store.{Ghosts}
use Rattle.vhd_map.specs.Bitmaps.{is_set}
use Rattle.vhd_map.specs.Places.{spot}
use Rattle.vhd_map.specs.Slots.{slot_of, used_count, top_of, IsMap}
use Rattle.vhd_layout.specs.Layouts.{Sectors, Layout}
use Rattle.vhd_volumes.specs.Writes.{own_in}
use Rattle.vhd_filling.specs.declared.fillings.Filling.{Filling}

-- the number of slots that were taken
abbrev pub slots_taken : Filling → ℕ
slots_taken f = used_count f.map

-- the block is this one
abbrev pub is_block : ℕ → Option ℕ → Bool
is_block b None = false
is_block b (Some a) = a == b

-- the sector of the volume at which part j of a slot stands: its bitmap for 0, and sector i of its block for 1 + i
abbrev pub place_in : Geometry → ℕ → ℕ → ℕ
place_in g k j = spot (first g.entries) g.block k j

-- sector i of a block by the volume: that of its slot, zeros where it has none
abbrev pub from_slot : Geometry → Sectors → ℕ → Option ℕ → List ℕ
from_slot g v i None = zeros
from_slot g v i (Some k) = v (place_in g k (1 + i))

-- a sector of the disk: what the page says where it has the sector's block, else what the volume says
abbrev pub held : Filling → Sectors → ℕ → List ℕ
held f v s = if is_block (s / f.geometry.block) f.block
    then sector f.page.items (1 + s % f.geometry.block)
    else from_slot f.geometry v (s % f.geometry.block) (slot_of f.map (s / f.geometry.block))

-- the bits of so many sectors are all set
abbrev pub AreSet : ℕ → List ℕ → Type 0
AreSet block bitmap = (i : ℕ) → i < block → is_set bitmap i ≡ true

-- What is kept in memory agrees: a page of a bitmap and a block; a map of the repository's entries, whose slots are the first ones; and the
-- page's block has a slot.
pub record IsSound (f : Filling) : Type 0 where
  pub long : length f.page.items ≡ 512 * (1 + f.geometry.block)
  pub entries : length f.map ≡ f.geometry.entries
  pub good : IsMap f.map
  pub in_row : top_of f.map ≡ used_count f.map
  pub there : (b : ℕ) → f.block ≡ Some b → slot_of f.map b ≢ None

-- all bits are set in the page's bitmap, and in that of each slot of the volume but the page's
pub record HasBitmaps (f : Filling) (v : Sectors) : Type 0 where
  pub page : AreSet f.geometry.block (sector f.page.items 0)
  pub slots : (b k : ℕ) → slot_of f.map b ≡ Some k → is_block b f.block ≡ false → AreSet f.geometry.block (v (place_in f.geometry k 0))

-- the image is filled in a store: memory is sound, by the repository's sizes, and the bitmaps are there
pub record Fills {S : Type 0} (g : Ghosts S) (f : Filling) (s : S) : Type 0 where
  pub sound : IsSound f
  pub sizes : (g.site s).geometry ≡ f.geometry
  pub marked : g.told → HasBitmaps f (reads (held_in (stored g s) f.volume))

-- what the new image holds in a store
abbrev pub held_now : {S : Type 0} → Ghosts S → Filling → S → ℕ → List ℕ
held_now g f s = held f (reads (held_in (stored g s) f.volume))

-- the map once a block has a slot: a block that has none gets the next one
abbrev pub slot_given : ℕ → List (Option ℕ) → Option ℕ → List (Option ℕ)
slot_given b m None = slice_set m b (Some (used_count m))
slot_given b m (Some k) = m

-- the map once this block has a slot, whatever the map says of it before
abbrev pub with_slot : ℕ → List (Option ℕ) → List (Option ℕ)
with_slot b m = slot_given b m (slot_of m b)

-- a sector that is put with these bytes takes a slot: they are not all zeros, and its block has none
abbrev pub TakesSlot : Filling → ℕ → List ℕ → Type 0
TakesSlot f s bytes = (bytes ≢ zeros) × (slot_of f.map (s / f.geometry.block) ≡ None)

-- the image goes on to be filled in the same volume, with this map
pub record GoesOn (m : List (Option ℕ)) (old new : Filling) : Type 0 where
  pub volume : new.volume ≡ old.volume
  pub geometry : new.geometry ≡ old.geometry
  pub map : new.map ≡ m

-- what is held is the same
abbrev pub HoldsSame : (ℕ → List ℕ) → (ℕ → List ℕ) → Type 0
HoldsSame old new = (s : ℕ) → new s ≡ old s

-- one sector holds these bytes, each other one what it held
pub record IsPut (at : ℕ) (bytes : List ℕ) (old new : ℕ → List ℕ) : Type 0 where
  pub here : new at ≡ bytes
  pub others : (s : ℕ) → s ≢ at → new s ≡ old s

-- the block of each slot is one of the first so many
abbrev pub HasBlocksBelow : ℕ → Filling → Type 0
HasBlocksBelow count f = (b k : ℕ) → slot_of f.map b ≡ Some k → b < count

-- a sector of a disk without a parent as an image holds it: zeros where it does not hold it
abbrev pub or_zeros : Option (List ℕ) → List ℕ
or_zeros None = zeros
or_zeros (Some bytes) = bytes

-- each of so many sectors of the disk that the image in a volume holds, or zeros where it does not hold it, is what is said
abbrev pub HasSectors : Layout → ℕ → (ℕ → List ℕ) → Sectors → Type 0
HasSectors l sectors said v = (s : ℕ) → s < sectors → or_zeros (own_in l v s) ≡ said s
