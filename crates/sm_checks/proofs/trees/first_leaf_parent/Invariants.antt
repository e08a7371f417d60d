use Rattle.std.proofs.Common.{◌≡◌, take, fold, None}
use Rattle.vg_meta.specs.Roomy.{table_alone}
use Rattle.sm_checks.proofs.ParentLaws.{with_leaf_parent}
use Rattle.sm_checks.proofs.trees.first_leaf_parent.Given as goal

-- the first of the parents so far
abbrev pub invariant-loop-row : goal.invariant-loop-row
invariant-loop-row l = l.first ≡ fold (with_leaf_parent (table_alone l.table) l.tree.rows) None (take l.row-index l.tree.rows)
