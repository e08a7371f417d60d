-- What a crash may leave of a group's table and area (this project's format: a table takes effect by one sector).
use Rattle.std.specs.Prelude.{◌≡◌, ℕ, ◌<◌, ◌⊎◌, List}
use Rattle.sm_disk.specs.Held.{Held, Allows, reads}
use Rattle.vg_meta.specs.Tables.{VolumeTable}

-- the version of a repository by which commits are made
abbrev pub current_version : ℕ
current_version = 2

-- this table, and of the area any choice sector by sector
pub record IsBefore (size : ℕ) (table : VolumeTable) (area : Held) (left : VolumeTable) (image : ℕ → List ℕ) : Type 0 where
  pub table_is : left ≡ table
  pub sectors : Allows size area image

-- the next table, and of the area what a read gave
pub record IsAfter (size : ℕ) (next : VolumeTable) (area : Held) (left : VolumeTable) (image : ℕ → List ℕ) : Type 0 where
  pub table_is : left ≡ next
  pub sectors : (p : ℕ) → p < size → image p ≡ reads area p

-- a commit that may have failed leaves one of the two
abbrev pub IsEither : ℕ → VolumeTable → VolumeTable → Held → VolumeTable → (ℕ → List ℕ) → Type 0
IsEither size table next area left image = IsBefore size table area left image ⊎ IsAfter size next area left image
