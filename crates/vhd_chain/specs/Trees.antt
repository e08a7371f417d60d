-- The tree of the images as contracts see it: the rows in memory, each found by the name of its image's volume.
use Rattle.std.specs.Prelude.{◌≡◌, ℕ, zero, suc, Bool, false, not, List, [], ◌∷◌, map, Option, Some, None}
use Rattle.std.specs.List.{find, filter, AllByRecursion}
use Rattle.std.specs.List.Sorted.{IsStrictlySortedBy}
use Rattle.std.specs.Ordering.{is_lt}
use Rattle.common_laws.specs.Lists.{◌>>=◌, insert_by, change}
use Rattle.sm_base.specs.declared.names.Name.{Name}
use Rattle.sm_base.specs.Names.{IsName, name_cmp}
use Rattle.vg_meta.specs.Tables.{name_eq}
use Rattle.vhd_image.specs.Bodies.{volume_name, parent_name}
use Rattle.vhd_chain.specs.declared.rows.TreeRow.{TreeRow}

-- the rows, and how many may be added without memory
pub record Tree : Type 0 where
  pub rows : List TreeRow
  pub spare : ℕ

-- the name of the volume of a row's image
abbrev pub row_name : TreeRow → Name
row_name r = volume_name r.image

-- whether a row has this name
abbrev pub has_name : Name → TreeRow → Bool
has_name n r = name_eq (row_name r) n

-- the row of this name
unfoldable pub tree_row : List TreeRow → Name → Option TreeRow
tree_row rows n = find (has_name n) rows

-- the names are names, in strictly rising order
pub record AreOrdered (rows : List TreeRow) : Type 0 where
  pub names : AllByRecursion (λ r. IsName (row_name r)) rows
  pub rising : IsStrictlySortedBy name_cmp (map row_name rows)

-- whether a row's name is less than another's
abbrev pub is_before : TreeRow → TreeRow → Bool
is_before r s = is_lt (name_cmp (row_name r) (row_name s))

-- the rows with one more, in order
abbrev pub with_row : TreeRow → List TreeRow → List TreeRow
with_row r rows = insert_by is_before r rows

-- the rows without that of this name
abbrev pub without : Name → List TreeRow → List TreeRow
without n rows = filter (λ r. not (has_name n r)) rows

-- the rows with this one in place of that of its name
abbrev pub with_replaced : TreeRow → List TreeRow → List TreeRow
with_replaced r rows = change (has_name (row_name r)) (λ s. r) rows

-- the parent of the image of this name
abbrev pub parent_of : List TreeRow → Name → Option Name
parent_of rows n = tree_row rows n >>= (λ r. parent_name r.image)

-- whether a row's image has this parent
abbrev pub is_child_of : Name → TreeRow → Bool
is_child_of p r = elim (parent_name r.image) [ None ↦ false | Some q ↦ name_eq q p ]

-- the rows whose images have this parent
abbrev pub children : List TreeRow → Name → List TreeRow
children rows p = filter (is_child_of p) rows

-- the name of the first row
abbrev pub first_name : List TreeRow → Option Name
first_name [] = None
first_name (r ∷ rows) = Some (row_name r)

-- no row's name is less
abbrev pub IsLeastName : List TreeRow → Name → Type 0
IsLeastName rows n = AllByRecursion (λ r. is_lt (name_cmp (row_name r) n) ≡ false) rows

-- the number of images of a chain from one up, counted up to a limit: a parent that is not there is none
unfoldable pub chain_length : List TreeRow → ℕ → Name → ℕ
chain_length rows zero n = 0
chain_length rows (suc most) n = elim (tree_row rows n) [ None ↦ 0 | Some r ↦ suc (elim (parent_name r.image) [ None ↦ 0 | Some p ↦ chain_length rows most p ]) ]
