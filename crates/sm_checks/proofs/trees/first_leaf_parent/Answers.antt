use Rattle.std.proofs.Common.{◌≡◌, fold, None, sym, subst, arith}
use Rattle.std.proofs.lemmas.Grind.{common_steps}
use Rattle.vg_meta.specs.Roomy.{table_alone}
use Rattle.sm_checks.specs.Faults.{IsFirstName, IsLeafParent}
use Rattle.sm_checks.proofs.ParentLaws.{first_leaf_parent, with_leaf_parent}
use Rattle.sm_checks.proofs.trees.first_leaf_parent.Goals as goal

pub returns : goal.returns
returns c =
    let t = table_alone c.args.table.now in
    let xs = c.args.tree.now.rows in
    let all : c.loop-row.first ≡ fold (with_leaf_parent t xs) None xs = grind (arith, common_steps) in
    subst (IsFirstName (IsLeafParent t xs)) (sym all) (first_leaf_parent t xs)
