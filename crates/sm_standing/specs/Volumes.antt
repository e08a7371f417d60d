-- A volume that holds what another volume held, perhaps under another name (this project's format).
use Rattle.std.specs.Prelude.{◌≡◌, ℕ, ◌<◌, true, List, Some}
use Rattle.sm_base.specs.declared.names.Name.{Name}
use Rattle.vg_meta.specs.Tables.{VolumeTable, Row}
use Rattle.sm_standing.specs.Contents.{Content, row, sectors_of, size_of}
use Rattle.sm_standing.specs.Entries.{making}
use Rattle.sm_standing.specs.Images.{image_extents}
use Rattle.sm_standing.specs.Apart.{is_apart}

-- no entry says that the image of this name is being enlarged
abbrev pub IsAtSize : VolumeTable → Name → Type 0
IsAtSize t n = (all : ℕ) → image_extents (making t) n all ≡ all

-- the volume m of b has the extents and the mark of the volume n of a, and the same sectors
pub record IsSameVolume (a b : Content) (n m : Name) (was now : Row) : Type 0 where
  pub extent : b.extent ≡ a.extent
  pub block : b.block ≡ a.block
  pub entries : b.entries ≡ a.entries
  pub before : row a n ≡ Some was
  pub after : row b m ≡ Some now
  pub extents : now.extents ≡ was.extents
  pub fresh : now.fresh ≡ was.fresh
  pub sectors : (p : ℕ) → p < size_of a n → sectors_of b m p ≡ sectors_of a n p

-- each volume whose name speaks of none of these UUIDs is the same, and has the same sectors
pub record AreSameApart (a b : Content) (us : List (List ℕ)) : Type 0 where
  pub extent : b.extent ≡ a.extent
  pub block : b.block ≡ a.block
  pub entries : b.entries ≡ a.entries
  pub rows : (n : Name) → is_apart us n ≡ true → row b n ≡ row a n
  pub sectors : (n : Name) (p : ℕ) → is_apart us n ≡ true → p < size_of a n → sectors_of b n p ≡ sectors_of a n p
  pub whole : (n : Name) → is_apart us n ≡ true → IsAtSize a.table n
  pub still_whole : (n : Name) → is_apart us n ≡ true → IsAtSize b.table n
