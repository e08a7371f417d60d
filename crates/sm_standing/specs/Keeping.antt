-- What every repository keeps, whenever the device stops (this project's format). The checks of an opening pass; that of logs
-- stands in LogChecks. Each block that has a slot in a VHD image holds at least one sector. While the children of an image are
-- being linked to its parent, the parent holds, with equal bytes, each sector that the image holds. The last two are seen only
-- by reading all bitmaps and data, so no opening tests them.
use Rattle.std.specs.Prelude.{◌≡◌, ℕ, ◌+◌, ◌*◌, ◌<◌, List, Some, None}
use Rattle.std.specs.List.{slice_get}
use Rattle.sm_base.specs.declared.names.Name.{Name}
use Rattle.sm_base.specs.declared.names.Name.TheVariants.{Vhd, Relink}
use Rattle.vg_meta.specs.Tables.{Row}
use Rattle.sm_standing.specs.Contents.{Content, row}
use Rattle.sm_standing.specs.Images.{Image, image_of}
use Rattle.sm_standing.specs.Checks.{first_fault}

-- each block with a slot holds a sector
abbrev pub IsHolding : ℕ → Image → Type 0
IsHolding block i = (b k : ℕ) → slice_get i.slots b ≡ Some (Some k)
    → (j : ℕ) × (j < block) × ((bytes : List ℕ) × (i.own (b * block + j) ≡ Some bytes))

-- in each VHD image each block with a slot holds a sector: no slot is empty
abbrev pub HasNoEmptySlot : Content → Type 0
HasNoEmptySlot c = (u : List ℕ) (i : Image) → image_of c (Vhd u) ≡ Some i → IsHolding c.block i

-- what one image holds, another holds alike
abbrev pub IsHeldAlike : Image → Image → Type 0
IsHeldAlike v p = (s : ℕ) (bytes : List ℕ) → v.own s ≡ Some bytes → p.own s ≡ Some bytes

-- under the entry of a link the image's parent holds, with equal bytes, each sector that the image holds
abbrev pub HasParentAlike : Content → Type 0
HasParentAlike c = (child parent : List ℕ) (r : Row) (v p : Image) (n : Name) → row c (Relink child parent) ≡ Some r
    → image_of c (Vhd child) ≡ Some v → v.parent ≡ Some n → image_of c n ≡ Some p → IsHeldAlike v p

-- what no opening tests
pub record HoldsWell (c : Content) : Type 0 where
  pub holding : HasNoEmptySlot c
  pub linking : HasParentAlike c

-- all checks of an opening but that of logs pass, and what no opening tests holds too
pub record IsKept (c : Content) : Type 0 where
  pub sound : first_fault c ≡ None
  pub holding : HasNoEmptySlot c
  pub linking : HasParentAlike c
