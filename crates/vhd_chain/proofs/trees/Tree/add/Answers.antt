use Rattle.std.proofs.Common.{◌≡◌, rules, sym, subst, None}
use Rattle.vhd_chain.specs.Trees.{Tree, AreOrdered, tree_row, row_name, with_row}
use Rattle.vhd_chain.proofs.OrderLaws.{ordered_with}
use Rattle.vhd_chain.proofs.trees.Tree.add.Goals as goal

pub invariant_of-self : goal.invariant_of-self
invariant_of-self c =
    let now : c.insert.new.self.items ≡ with_row c.args.row c.self.inside.rows.items = search rules in
    subst AreOrdered (sym now)
    (ordered_with c.self.inside.rows.items c.args.row c.requires.name
    (subst (λ (t : Tree). tree_row t.rows (row_name c.args.row) ≡ None) (sym c.self.view_is) c.requires.absent) c.self.invariant)
