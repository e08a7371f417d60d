use Rattle.std.proofs.Common.{◌≡◌, None, Some, sym, ap, ◌∙◌, rules}
use Rattle.vg_meta.specs.Roomy.{table_alone}
use Rattle.sm_checks.specs.Faults.{is_tree_astray}
use Rattle.sm_checks.proofs.CheckLaws.{held_first, held_name}
use Rattle.sm_checks.proofs.trees.first_astray.Goals as goal

pub returns-in_err-volume : goal.returns-in_err-volume
returns-in_err-volume c =
    let none : c.from_residual.result ≡ None = search rules in
    none ∙ ap held_name c.in_err-volume.ensures ∙ sym (held_first (λ r. is_tree_astray (table_alone c.args.table.now) c.args.tree.now.rows r r.name) c.args.volumes.now)

pub returns : goal.returns
returns c =
    ap Some c.name.ensures.name ∙ ap held_name c.in_ok-volume.ensures
    ∙ sym (held_first (λ r. is_tree_astray (table_alone c.args.table.now) c.args.tree.now.rows r r.name) c.args.volumes.now)
