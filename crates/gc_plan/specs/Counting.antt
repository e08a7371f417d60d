-- The places of rows among those of the tree, and when each row has its number of children.
use Rattle.std.specs.Prelude.{◌≡◌, ℕ, ◌<◌, ◌≤◌, List, Some, length, slice_index_or}
use Rattle.sm_base.specs.declared.names.Name.{Name}
use Rattle.vhd_image.specs.Bodies.{parent_name}
use Rattle.vhd_chain.specs.Trees.{children, row_name}
use Rattle.vhd_chain.specs.declared.rows.TreeRow.{TreeRow}

-- the row of this name stands at this place
pub record IsPlaceOf (rows : List TreeRow) (n : Name) (at : ℕ) : Type 0 where
  pub within : at < length rows
  pub named : (d : TreeRow) → row_name (slice_index_or rows at d) ≡ n

-- no row has this name
abbrev pub HasNone : List TreeRow → Name → Type 0
HasNone rows n = (i : ℕ) (d : TreeRow) → i < length rows → row_name (slice_index_or rows i d) ≡ n → ⊥

-- the row of an image's parent stands at this place
pub record IsParentPlace (rows : List TreeRow) (r : TreeRow) (at : ℕ) : Type 0 where
  pub parent : Name
  pub linked : parent_name r.image ≡ Some parent
  pub place : IsPlaceOf rows parent at

-- no row is that of an image's parent
abbrev pub HasNoParent : List TreeRow → TreeRow → Type 0
HasNoParent rows r = (i : ℕ) (d : TreeRow) → i < length rows → parent_name r.image ≡ Some (row_name (slice_index_or rows i d)) → ⊥

-- each row has a number, which is that of the rows whose parent it is
pub record AreCounted (rows : List TreeRow) (counts : List ℕ) : Type 0 where
  pub room : length rows ≤ length counts
  pub each : (i : ℕ) (d : TreeRow) → i < length rows → slice_index_or counts i 0 ≡ length (children rows (row_name (slice_index_or rows i d)))
