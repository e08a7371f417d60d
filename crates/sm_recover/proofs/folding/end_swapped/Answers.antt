use Rattle.std.proofs.Common.{false, Some, ◌++◌, subst, ap, ◌∙◌}
use Rattle.sm_base.specs.declared.names.Name.TheVariants.{Vhd}
use Rattle.vg_meta.specs.Roomy.{table_alone}
use Rattle.vg_meta.specs.declared.changes.Change.TheVariants.{Mark}
use Rattle.vg_meta.specs.declared.changes.Tag.TheVariants.{Hidden}
use Rattle.sm_standing.specs.Opened.{leaf_gone, wanted}
use Rattle.sm_recover.specs.Steps.{MakesPart, is_marked}
use Rattle.sm_recover.proofs.StepLaws.{front_part, then_part}
use Rattle.sm_recover.proofs.folding.end_swapped.Goals as goal

pub returns-in_err-commit_where-clause-part : goal.returns-in_err-commit_where-clause-part
returns-in_err-commit_where-clause-part g c =
    let is = c.is_marked-is_hidden.ensures ∙ ap (λ k. is_marked (table_alone k) (Some (Vhd c.args.leaf))) c.table.ensures.table in
    let zs = leaf_gone c.args.leaf c.args.parent in
    subst (λ b. MakesPart g.S.Store (wanted b (Mark (Vhd c.args.leaf) Hidden false) ++ zs) c.args.store.now c.commit_where.new.store) is
    (front_part (wanted c.is_marked-is_hidden.result (Mark (Vhd c.args.leaf) Hidden false)) zs c.commit_where.ensures.part)

pub returns-in_err-drop_leaf-clause-part : goal.returns-in_err-drop_leaf-clause-part
returns-in_err-drop_leaf-clause-part g c =
    let is = c.is_marked-is_hidden.ensures ∙ ap (λ k. is_marked (table_alone k) (Some (Vhd c.args.leaf))) c.table.ensures.table in
    let zs = leaf_gone c.args.leaf c.args.parent in
    subst (λ b. MakesPart g.S.Store (wanted b (Mark (Vhd c.args.leaf) Hidden false) ++ zs) c.args.store.now c.drop_leaf.new.store) is
    (then_part (wanted c.is_marked-is_hidden.result (Mark (Vhd c.args.leaf) Hidden false)) zs c.commit_where.ensures.part c.in_ok-commit_where.ensures.all c.drop_leaf.ensures.part)

pub returns-clause-part : goal.returns-clause-part
returns-clause-part g c =
    let is = c.is_marked-is_hidden.ensures ∙ ap (λ k. is_marked (table_alone k) (Some (Vhd c.args.leaf))) c.table.ensures.table in
    let zs = leaf_gone c.args.leaf c.args.parent in
    subst (λ b. MakesPart g.S.Store (wanted b (Mark (Vhd c.args.leaf) Hidden false) ++ zs) c.args.store.now c.drop_leaf.new.store) is
    (then_part (wanted c.is_marked-is_hidden.result (Mark (Vhd c.args.leaf) Hidden false)) zs c.commit_where.ensures.part c.in_ok-commit_where.ensures.all c.drop_leaf.ensures.part)
