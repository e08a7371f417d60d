use Rattle.std.proofs.Common.{List, Option, sym, subst, ap, ◌∙◌}
use Rattle.std.specs.Prelude.{IfSome}
use Rattle.sm_base.specs.declared.names.Name.{Name}
use Rattle.vhd_chain.specs.declared.rows.TreeRow.{TreeRow}
use Rattle.vhd_chain.specs.Trees.{Tree, children, first_name, IsLeastName}
use Rattle.vhd_chain.proofs.OrderLaws.{least_of_children}
use Rattle.vhd_chain.proofs.trees.Tree.least_child.Goals as goal

pub returns-clause-least : goal.returns-clause-least
returns-clause-least c =
    let n = c.args.name.now in
    let is = c.first_child.ensures ∙ ap (λ (l : List TreeRow). first_name (children l n)) c.deref.ensures.value in
    subst (λ (t : Tree). IfSome c.first_child.result (IsLeastName (children t.rows n))) c.self.view_is
    (subst (λ (o : Option Name). IfSome o (IsLeastName (children c.self.inside.rows.items n))) (sym is)
    (least_of_children c.self.inside.rows.items n c.self.invariant))
