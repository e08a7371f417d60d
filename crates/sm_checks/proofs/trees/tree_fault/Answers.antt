use Rattle.std.proofs.Common.{◌≡◌, None, ap, ◌∙◌, rules}
use Rattle.sm_base.specs.declared.faults.Place.TheVariants as at
use Rattle.vg_meta.specs.Roomy.{rows_alone, table_alone}
use Rattle.sm_checks.specs.Faults.{is_tree_astray}
use Rattle.sm_standing.specs.Checks.{first_name, placed}
use Rattle.sm_checks.proofs.ParentLaws.{trees_at}
use Rattle.sm_checks.proofs.trees.tree_fault.Goals as goal

pub returns-in_err-name : goal.returns-in_err-name
returns-in_err-name c = λ seen is links counted.
    let t = table_alone c.args.table.now in
    let xs = c.args.tree.now.rows in
    let none : c.from_residual.result ≡ None = search rules in
    let found = c.first_astray.ensures ∙ ap (λ hs. first_name (λ r. is_tree_astray t xs r r.name) (rows_alone hs)) c.volumes.ensures.volumes in
    none ∙ ap (placed at.Tree) c.in_err-name.ensures
    ∙ trees_at t xs c.volumes.ensures.table.volumes.rising seen _ _ is links counted found c.first_leaf_parent.ensures

pub returns : goal.returns
returns c = λ seen is links counted.
    let t = table_alone c.args.table.now in
    let xs = c.args.tree.now.rows in
    let found = c.first_astray.ensures ∙ ap (λ hs. first_name (λ r. is_tree_astray t xs r r.name) (rows_alone hs)) c.volumes.ensures.volumes in
    ap (placed at.Tree) c.in_ok-name.ensures
    ∙ trees_at t xs c.volumes.ensures.table.volumes.rising seen _ _ is links counted found c.first_leaf_parent.ensures
