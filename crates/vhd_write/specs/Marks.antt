-- Some of so many sectors, told by a bitmap (the marks), and their bytes. `at` is the place of the first of all, marked or not.
use Rattle.std.specs.Prelude.{◌≡◌, ℕ, ◌+◌, ◌*◌, ◌<◌, ◌≤◌, true, List, Option, None}
use Rattle.sm_disk.specs.Sectors.{sector}
use Rattle.vhd_map.specs.Bitmaps.{is_set}
use Rattle.vhd_map.specs.Slots.{slot_of, least_free_slot}
use Rattle.vhd_layout.specs.Layouts.{Sectors, Layout, place}
use Rattle.vhd_write.specs.WritePlaces.{Touches, HasOnlyBits}

-- the place is that of a marked one of so many sectors
pub record IsMarked (count at : ℕ) (marks : List ℕ) (p : ℕ) : Type 0 where
  pub i : ℕ
  pub within : i < count
  pub here : p ≡ at + i
  pub marked : is_set marks i ≡ true

-- one of so many sectors is marked
abbrev pub HasMark : ℕ → List ℕ → Type 0
HasMark count marks = (i : ℕ) × (i < count) × (is_set marks i ≡ true)

-- a marked one of so many sectors at its place, with its bytes
pub record PutsMarked (count at : ℕ) (marks bytes : List ℕ) (p : ℕ) (v : List ℕ) : Type 0 where
  pub i : ℕ
  pub within : i < count
  pub here : p ≡ at + i
  pub marked : is_set marks i ≡ true
  pub is : v ≡ sector bytes i

-- the marked sectors from one number to another have their bytes
abbrev pub HasMarked : ℕ → List ℕ → List ℕ → ℕ → ℕ → Sectors → Type 0
HasMarked at marks bytes from until r = (i : ℕ) → from ≤ i → i < until → is_set marks i ≡ true → r (at + i) ≡ sector bytes i

-- the marked sectors of a block of the disk
abbrev pub IsMarkedIn : ℕ → ℕ → List ℕ → ℕ → Type 0
IsMarkedIn block b marks = IsMarked block (b * block) marks

-- the marked sectors of a block of the disk, each with its bytes
abbrev pub PutsMarkedIn : ℕ → ℕ → List ℕ → List ℕ → ℕ → List ℕ → Type 0
PutsMarkedIn block b marks bytes = PutsMarked block (b * block) marks bytes

-- the bitmap of a block that has no slot, in the map's least free one, with bits of given sectors alone
pub record PutsBitmap (l : Layout) (M : ℕ → Type 0) (m : List (Option ℕ)) (b p : ℕ) (v : List ℕ) : Type 0 where
  pub without : slot_of m b ≡ None
  pub touched : Touches l M b
  pub here : p ≡ place l (least_free_slot m) 0
  pub only : HasOnlyBits l M b v
