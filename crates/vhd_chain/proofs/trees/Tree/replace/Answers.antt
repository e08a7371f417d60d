use Rattle.std.proofs.Common.{◌≡◌, List, get_or, Some, refl, subst, subst₂, sym, ap, ◌∙◌}
use Rattle.std.specs.Prelude.{slice_set}
use Rattle.sm_base.specs.declared.names.Name.{Name}
use Rattle.vhd_chain.specs.declared.rows.TreeRow.{TreeRow}
use Rattle.vhd_chain.specs.Places.{IsPlace}
use Rattle.vhd_chain.specs.Trees.{Tree, AreOrdered, tree_row, row_name, with_replaced}
use Rattle.vhd_chain.proofs.PlaceLaws.{read_at}
use Rattle.vhd_chain.proofs.ReplaceLaws.{ordered_set, replaced_at}
use Rattle.vhd_chain.proofs.trees.Tree.replace.Goals as goal

pub invariant_of-self : goal.invariant_of-self
invariant_of-self c =
    let spot : IsPlace c.self.inside.rows.items (row_name c.args.row) c.in-Some.at = subst₂ (λ (l : List TreeRow) (n : Name). IsPlace l n c.in-Some.at) c.deref.ensures.value c.name.ensures c.in-Some.ensures.found in
    subst (λ (r : TreeRow). AreOrdered (slice_set c.self.inside.rows.items c.in-Some.at r)) (sym c.replace.ensures.after)
    (ordered_set c.self.inside.rows.items (row_name c.args.row) c.in-Some.at c.args.row spot refl c.self.invariant)

pub returns-clause-was : goal.returns-clause-was
returns-clause-was c =
    let spot : IsPlace c.self.inside.rows.items (row_name c.args.row) c.in-Some.at = subst₂ (λ (l : List TreeRow) (n : Name). IsPlace l n c.in-Some.at) c.deref.ensures.value c.name.ensures c.in-Some.ensures.found in
    let found : c.replace.result ≡ get_or c.self.inside.rows.items c.in-Some.at c.replace.result = rw c.replace.ensures.value c.index_mut.ensures.value in
    subst (λ (t : Tree). tree_row t.rows (row_name c.args.row) ≡ Some c.replace.result) c.self.view_is
    (sym (read_at c.self.inside.rows.items (row_name c.args.row) c.in-Some.at c.replace.result spot found))

pub returns-clause-rows : goal.returns-clause-rows
returns-clause-rows c =
    let spot : IsPlace c.self.inside.rows.items (row_name c.args.row) c.in-Some.at = subst₂ (λ (l : List TreeRow) (n : Name). IsPlace l n c.in-Some.at) c.deref.ensures.value c.name.ensures c.in-Some.ensures.found in
    subst (λ (t : Tree). slice_set c.self.inside.rows.items c.in-Some.at c.replace.new.dest ≡ with_replaced c.args.row t.rows) c.self.view_is
    (ap (slice_set c.self.inside.rows.items c.in-Some.at) c.replace.ensures.after ∙ replaced_at c.self.inside.rows.items c.in-Some.at c.args.row spot c.self.invariant)
