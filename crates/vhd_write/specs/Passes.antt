-- What the passes of a write put where. `M` says which sectors of the disk are given, `W` which bytes the write puts at which of them;
-- `r` is what a read gives.
use Rattle.std.specs.Prelude.{◌≡◌, ◌≢◌, ℕ, ◌+◌, ◌-◌, ◌*◌, ◌/◌, ◌<◌, ◌≤◌, ◌⊎◌, Bool, true, false, List, Option, None, Some}
use Rattle.sm_disk.specs.Held.{Held, Keeps, May, Puts, Reaches, reads}
use Rattle.sm_disk.specs.Sectors.{sector}
use Rattle.vhd_map.specs.Bitmaps.{is_set}
use Rattle.vhd_map.specs.Places.{word}
use Rattle.vhd_map.specs.Slots.{slot_of, least_free_slot}
use Rattle.vhd_layout.specs.Layouts.{Sectors, Layout, Slots, place, code, slot_count}
use Rattle.vhd_write.specs.WritePlaces.{Touches, HasOnlyBits, HasMoreBits}

-- ---- the first pass: data, and the bitmaps of new slots

-- the new bytes of a sector of block b, at their place in slot k
pub record PutsHeld (l : Layout) (W : ℕ → List ℕ → Type 0) (b k p : ℕ) (v : List ℕ) : Type 0 where
  pub i : ℕ
  pub within : i < l.block
  pub here : p ≡ place l k (1 + i)
  pub puts : W (b * l.block + i) v

-- a bitmap with no bit set but so many from `first` on
abbrev pub IsUnsetBeside : ℕ → ℕ → List ℕ → Type 0
IsUnsetBeside first count bitmap = (i : ℕ) → (i < first) ⊎ (first + count ≤ i) → is_set bitmap i ≡ false

-- such a bitmap of slot k, or these bytes in its sectors from `first` on
abbrev pub PutsPart : Layout → ℕ → ℕ → ℕ → List ℕ → ℕ → List ℕ → Type 0
PutsPart l k first count bytes p v = ((p ≡ place l k 0) × IsUnsetBeside first count v) ⊎ Puts (place l k (1 + first)) bytes p v

-- a bitmap of slot k, which touched block b is given, with bits of given sectors alone, or the new bytes of one of its sectors
abbrev pub PutsSlot : Layout → (ℕ → List ℕ → Type 0) → (ℕ → Type 0) → ℕ → ℕ → ℕ → List ℕ → Type 0
PutsSlot l W M b k p v = (Touches l M b × (p ≡ place l k 0) × HasOnlyBits l M b v) ⊎ PutsHeld l W b k p v

-- what the first pass puts for block b: its data where it has a slot, else its bitmap and data in the map's least free slot
abbrev pub PutsBlock : Layout → (ℕ → List ℕ → Type 0) → (ℕ → Type 0) → List (Option ℕ) → ℕ → ℕ → List ℕ → Type 0
PutsBlock l W M m b p v =
    ((k : ℕ) × (slot_of m b ≡ Some k) × PutsHeld l W b k p v) ⊎ ((slot_of m b ≡ None) × PutsSlot l W M b (least_free_slot m) p v)

-- what the first pass puts for all blocks: the data of blocks that have a slot, and parts of slots that no block has
pub record PutsFree (l : Layout) (m : Slots) (p : ℕ) : Type 0 where
  pub k : ℕ
  pub free : (b : ℕ) → m b ≢ Some k
  pub below : k < slot_count l
  pub j : ℕ
  pub within : j < 1 + l.block
  pub here : p ≡ place l k j

abbrev pub PutsData : Layout → (ℕ → List ℕ → Type 0) → Slots → ℕ → List ℕ → Type 0
PutsData l W m p v = ((b k : ℕ) × (m b ≡ Some k) × PutsHeld l W b k p v) ⊎ PutsFree l m p

-- the new bytes of block b stand in slot k
abbrev pub HasData : Layout → (ℕ → List ℕ → Type 0) → ℕ → ℕ → Sectors → Type 0
HasData l W b k r = (i : ℕ) (v : List ℕ) → i < l.block → W (b * l.block + i) v → r (place l k (1 + i)) ≡ v

-- slot k holds of block b just the given sectors, and at least one
pub record IsNewSlot (l : Layout) (M : ℕ → Type 0) (b k : ℕ) (r : Sectors) : Type 0 where
  pub only : HasOnlyBits l M b (r (place l k 0))
  pub each : (i : ℕ) → i < l.block → M (b * l.block + i) → is_set (r (place l k 0)) i ≡ true
  pub some : (i : ℕ) × (i < l.block) × M (b * l.block + i)

-- slot k holds these bytes in its sectors from `first` on, and the bits of just these
pub record IsSlotFilled (l : Layout) (k first count : ℕ) (bytes : List ℕ) (r : Sectors) : Type 0 where
  pub set : (i : ℕ) → first ≤ i → i < first + count → is_set (r (place l k 0)) i ≡ true
  pub others : IsUnsetBeside first count (r (place l k 0))
  pub bytes_are : (j : ℕ) → j < count → r (place l k (1 + (first + j))) ≡ sector bytes j

-- block b is put: its bytes stand in its slot, and where it had none the slot is a new one
pub record IsPut (l : Layout) (W : ℕ → List ℕ → Type 0) (M : ℕ → Type 0) (old new : Option ℕ) (b : ℕ) (r : Sectors) : Type 0 where
  pub data_is : (k : ℕ) → new ≡ Some k → HasData l W b k r
  pub fresh : (k : ℕ) → old ≡ None → new ≡ Some k → IsNewSlot l M b k r

-- the blocks below `end` are put
abbrev pub ArePut : Layout → (ℕ → List ℕ → Type 0) → (ℕ → Type 0) → Slots → Slots → ℕ → Sectors → Type 0
ArePut l W M old new end r = (b : ℕ) → b < end → IsPut l W M (old b) (new b) b r

-- ---- the second pass: bitmaps

-- the bits of the given sectors of block b are set
abbrev pub HasBits : Layout → (ℕ → Type 0) → ℕ → List ℕ → Type 0
HasBits l M b bitmap = (i : ℕ) → i < l.block → M (b * l.block + i) → is_set bitmap i ≡ true

pub record PutsBits (l : Layout) (M : ℕ → Type 0) (b k : ℕ) (r : Sectors) (p : ℕ) (v : List ℕ) : Type 0 where
  pub touched : Touches l M b
  pub here : p ≡ place l k 0
  pub more : HasMoreBits l M b (r p) v

-- what the second pass puts for one block, and for all
abbrev pub PutsBitsOf : Layout → (ℕ → Type 0) → Option ℕ → ℕ → Sectors → ℕ → List ℕ → Type 0
PutsBitsOf l M slot b r p v = (k : ℕ) × (slot ≡ Some k) × PutsBits l M b k r p v

abbrev pub PutsBitsAll : Layout → (ℕ → Type 0) → Slots → Sectors → ℕ → List ℕ → Type 0
PutsBitsAll l M m r p v = (b k : ℕ) × (m b ≡ Some k) × PutsBits l M b k r p v

-- no more than that was put, for one block and for all
abbrev pub SetsBits : Layout → (ℕ → Type 0) → Option ℕ → ℕ → Held → Held → Type 0
SetsBits l M slot b old new = Reaches (PutsBitsOf l M slot b (reads old)) old new

abbrev pub SetsAllBits : Layout → (ℕ → Type 0) → Slots → Held → Held → Type 0
SetsAllBits l M m old new = Reaches (PutsBitsAll l M m (reads old)) old new

-- where block b has a slot, the bits of the given sectors are set there
abbrev pub AreSet : Layout → (ℕ → Type 0) → Option ℕ → ℕ → Sectors → Type 0
AreSet l M slot b r = (k : ℕ) → slot ≡ Some k → HasBits l M b (r (place l k 0))

-- so in each block from `first` to one before `end`
abbrev pub AreAllSet : Layout → (ℕ → Type 0) → Slots → ℕ → ℕ → Sectors → Type 0
AreAllSet l M m first end r = (b : ℕ) → first ≤ b → b < end → AreSet l M (m b) b r

-- where block b has a slot that is not below `fresh`, they are set there
abbrev pub AreNewSet : Layout → (ℕ → Type 0) → ℕ → Option ℕ → ℕ → Sectors → Type 0
AreNewSet l M fresh slot b r = (k : ℕ) → slot ≡ Some k → fresh ≤ k → HasBits l M b (r (place l k 0))

-- so in each block from `first` to one before `end`
abbrev pub AreAllNewSet : Layout → (ℕ → Type 0) → ℕ → Slots → ℕ → ℕ → Sectors → Type 0
AreAllNewSet l M fresh m first end r = (b : ℕ) → first ≤ b → b < end → AreNewSet l M fresh (m b) b r

-- block b has a slot, and the bits of the given sectors are set there
abbrev pub IsFull : Type 0 → Layout → (ℕ → Type 0) → Slots → ℕ → Sectors → Type 0
IsFull told l M m b r = (k : ℕ) × (m b ≡ Some k) × (told → HasBits l M b (r (place l k 0)))

-- ---- the third pass: sectors of the table

-- the sector of the table with this number, of this map
abbrev pub IsTableSector : Layout → Slots → ℕ → List ℕ → Type 0
IsTableSector l m index v = (j : ℕ) → j < 128 → word v j ≡ code l (m (128 * index + j))

-- the table's sectors with the entries of the blocks from `first` to one before `end`
abbrev pub AreTableSectors : Layout → Slots → ℕ → ℕ → Sectors → Type 0
AreTableSectors l m first end r =
    (index : ℕ) → first / 128 ≤ index → index ≤ (end - 1) / 128 → IsTableSector l m index (r (3 + index))

-- this one at its place
pub record PutsEntries (l : Layout) (m : Slots) (index p : ℕ) (v : List ℕ) : Type 0 where
  pub within : 128 * index < l.entries
  pub here : p ≡ 3 + index
  pub sector : IsTableSector l m index v

-- one with a touched block's entry
pub record PutsTable (l : Layout) (M : ℕ → Type 0) (m : Slots) (p : ℕ) (v : List ℕ) : Type 0 where
  pub b : ℕ
  pub touched : Touches l M b
  pub puts : PutsEntries l m (b / 128) p v

-- what these two passes put, behind the sync
abbrev pub PutsRest : Layout → (ℕ → Type 0) → Slots → Sectors → ℕ → List ℕ → Type 0
PutsRest l M m r p v = PutsBitsAll l M m r p v ⊎ PutsTable l M m p v

-- where nothing was pending as a step began: a stop leaves what a read gave, or what the step puts, and so does a read
pub record Goes (W : Sectors → ℕ → List ℕ → Type 0) (old new : Held) : Type 0 where
  pub may : (p : ℕ) (v : List ℕ) → May new p v → (v ≡ reads old p) ⊎ W (reads old) p v
  pub gives : (p : ℕ) → (reads new p ≡ reads old p) ⊎ W (reads old) p (reads new p)

-- what the sync and the two passes did: nothing that shows, or so much of them
abbrev pub GoesOn : Layout → (ℕ → Type 0) → Slots → Held → Held → Type 0
GoesOn l M m old new = Keeps old new ⊎ Goes (PutsRest l M m) old new

-- and at their end: the bits are set, and where not all blocks had slots, their entries stand in the table
pub record IsFinished (l : Layout) (M : ℕ → Type 0) (m : Slots) (first end : ℕ) (held : Bool) (old new : Held) : Type 0 where
  pub goes : Goes (PutsRest l M m) old new
  pub bits : AreAllSet l M m first end (reads new)
  pub table : held ≡ false → AreTableSectors l m first end (reads new)
