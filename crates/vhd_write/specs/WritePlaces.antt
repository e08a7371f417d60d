-- Where a write may put anything, and what. `M` says which sectors of the disk are given, `W` which bytes it puts at which of them; `m` is
-- the map that it begins with, `n` the one that it ends with, and `r` what a read gave as it began.
use Rattle.std.specs.Prelude.{◌≡◌, ℕ, ◌+◌, ◌*◌, ◌/◌, ◌<◌, ◌⊎◌, true, List, None, Some}
use Rattle.sm_disk.specs.Held.{Held, Reaches, reads}
use Rattle.vhd_map.specs.Bitmaps.{is_set}
use Rattle.vhd_map.specs.Places.{word}
use Rattle.vhd_layout.specs.Layouts.{Sectors, Layout, Slots, place, code}

-- the write touches block b: one of its sectors lies there
abbrev pub Touches : Layout → (ℕ → Type 0) → ℕ → Type 0
Touches l M b = (i : ℕ) × (i < l.block) × M (b * l.block + i)

-- a bitmap with no bit set but those of given sectors of block b
abbrev pub HasOnlyBits : Layout → (ℕ → Type 0) → ℕ → List ℕ → Type 0
HasOnlyBits l M b bitmap = (i : ℕ) → is_set bitmap i ≡ true → (i < l.block) × M (b * l.block + i)

-- a bitmap of block b with more bits set, those of given sectors; each other bit is as it was
abbrev pub HasMoreBits : Layout → (ℕ → Type 0) → ℕ → List ℕ → List ℕ → Type 0
HasMoreBits l M b old new =
    (i : ℕ) → (is_set new i ≡ is_set old i) ⊎ ((is_set new i ≡ true) × (i < l.block) × M (b * l.block + i))

-- the bitmap of a touched block's slot: in a new slot with bits of given sectors alone, and in one that the block had with more of
-- these. So no bit behind the block's sectors is set that was not set before.
pub record IsBitmapPlace (l : Layout) (M : ℕ → Type 0) (m n : Slots) (r : Sectors) (p : ℕ) (v : List ℕ) : Type 0 where
  pub b : ℕ
  pub k : ℕ
  pub touched : Touches l M b
  pub has : n b ≡ Some k
  pub here : p ≡ place l k 0
  pub fresh : m b ≡ None → HasOnlyBits l M b v
  pub more : (j : ℕ) → m b ≡ Some j → HasMoreBits l M b (r p) v

-- a given sector, in the slot of its block, with its bytes
pub record IsSectorPlace (l : Layout) (W : ℕ → List ℕ → Type 0) (n : Slots) (p : ℕ) (v : List ℕ) : Type 0 where
  pub b : ℕ
  pub k : ℕ
  pub i : ℕ
  pub within : i < l.block
  pub puts : W (b * l.block + i) v
  pub has : n b ≡ Some k
  pub here : p ≡ place l k (1 + i)

-- the sector of the block allocation table with a touched block's entry; each entry in it is that of the map that the write begins with,
-- or of the one that it ends with
pub record IsTablePlace (l : Layout) (M : ℕ → Type 0) (m n : Slots) (p : ℕ) (v : List ℕ) : Type 0 where
  pub b : ℕ
  pub touched : Touches l M b
  pub here : p ≡ 3 + b / 128
  pub entries : (j : ℕ) → j < 128 → (word v j ≡ code l (m (128 * (b / 128) + j))) ⊎ (word v j ≡ code l (n (128 * (b / 128) + j)))

-- the write may put v at the place p of the volume
abbrev pub IsWritePlace : Layout → (ℕ → List ℕ → Type 0) → (ℕ → Type 0) → Slots → Slots → Sectors → ℕ → List ℕ → Type 0
IsWritePlace l W M m n r p v = IsSectorPlace l W n p v ⊎ IsBitmapPlace l M m n r p v ⊎ IsTablePlace l M m n p v

-- the write put nothing but that: given sectors, with their bytes, in their blocks' slots; the bitmaps of these slots, with no new bits
-- but those of given sectors; and sectors of the table, with no new entries but those of the map that it ends with
abbrev pub KeepsToPlaces : Layout → (ℕ → List ℕ → Type 0) → (ℕ → Type 0) → Slots → Slots → Held → Held → Type 0
KeepsToPlaces l W M m n old new = Reaches (IsWritePlace l W M m n (reads old)) old new
