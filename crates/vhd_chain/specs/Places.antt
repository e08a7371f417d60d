-- Where the row of a name stands.
use Rattle.std.specs.Prelude.{◌≡◌, ℕ, List, Some, false, slice_get, take}
use Rattle.std.specs.List.{AllByRecursion}
use Rattle.sm_base.specs.declared.names.Name.{Name}
use Rattle.vhd_chain.specs.Trees.{row_name, has_name}
use Rattle.vhd_chain.specs.declared.rows.TreeRow.{TreeRow}

-- the first row of this name stands at this place
pub record IsPlace (rows : List TreeRow) (n : Name) (i : ℕ) : Type 0 where
  pub held : TreeRow
  pub at : slice_get rows i ≡ Some held
  pub named : row_name held ≡ n
  pub before : AllByRecursion (λ r. has_name n r ≡ false) (take i rows)
