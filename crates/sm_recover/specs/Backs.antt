-- The images in memory once a fork that a stop has cut short is undone: the new images are gone, and the base, where it is
-- there, is the disk's image again.
use Rattle.std.specs.Prelude.{◌≡◌, ℕ, false, List, Option, None, Some}
use Rattle.sm_base.specs.Names.{IsName}
use Rattle.sm_base.specs.declared.names.Name.{Name}
use Rattle.sm_base.specs.declared.names.Name.TheVariants.{Mgt, Vhd, Raw, Old, Cbt, Clone, Inflate, Coalesce, Relink, Leaf}
use Rattle.vg_meta.specs.Tables.{VolumeTable}
use Rattle.sm_standing.specs.Entries.{head, image_with, making}
use Rattle.sm_standing.specs.Opened.{under_name}
use Rattle.vhd_image.specs.Bodies.{in_volume}
use Rattle.vhd_chain.specs.Trees.{tree_row, with_row, without}
use Rattle.vhd_chain.specs.declared.rows.TreeRow.{TreeRow}

-- a row under another name, shown
abbrev pub row_back : Name → TreeRow → TreeRow
row_back to y = record { image = in_volume to y.image; hidden = false; extents = y.extents }

-- the row of the base, where it is there, is that of the disk's image
abbrev pub base_back : Name → Name → List TreeRow → List TreeRow
base_back from to xs = elim (tree_row xs from) [ None ↦ xs | Some y ↦ with_row (row_back to y) (without from xs) ]

abbrev pub fork_back : Option Name → List ℕ → List TreeRow → List TreeRow
fork_back None disk xs = xs
fork_back (Some from) disk xs = base_back from (under_name from disk) (without (Vhd disk) xs)

abbrev pub entry_back : VolumeTable → Option Name → List TreeRow → List TreeRow
entry_back t (Some (Clone disk base twin)) xs = fork_back (image_with t base) disk (without (Vhd twin) xs)
entry_back t None xs = xs
entry_back t (Some Mgt) xs = xs
entry_back t (Some (Vhd u)) xs = xs
entry_back t (Some (Raw u)) xs = xs
entry_back t (Some (Old u)) xs = xs
entry_back t (Some (Cbt u)) xs = xs
entry_back t (Some (Inflate image extents)) xs = xs
entry_back t (Some (Coalesce child parent)) xs = xs
entry_back t (Some (Relink child parent)) xs = xs
entry_back t (Some (Leaf leaf parent)) xs = xs

-- the rows in memory once the table's fork is undone
unfoldable pub rows_back : VolumeTable → List TreeRow → List TreeRow
rows_back t xs = entry_back t (head (making t)) xs

-- the disk's names are names, and no raw image in memory has it yet
pub record IsFreeAgain (disk : List ℕ) (xs : List TreeRow) : Type 0 where
  pub vhd_name : IsName (Vhd disk)
  pub raw_name : IsName (Raw disk)
  pub no_raw : tree_row xs (Raw disk) ≡ None

-- where the entry of a fork and its base are there, the disk's names are free again
abbrev pub CanGiveBack : VolumeTable → List TreeRow → Type 0
CanGiveBack t xs = (disk base twin : List ℕ) → head (making t) ≡ Some (Clone disk base twin) → (from : Name) → image_with t base ≡ Some from → IsFreeAgain disk xs
