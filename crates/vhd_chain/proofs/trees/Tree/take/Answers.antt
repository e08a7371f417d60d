use Rattle.std.proofs.Common.{◌≡◌, List, None, Some, subst, sym, ◌∙◌, arith}
use Rattle.vhd_chain.specs.declared.rows.TreeRow.{TreeRow}
use Rattle.vhd_chain.specs.Places.{IsPlace}
use Rattle.vhd_chain.specs.Trees.{Tree, AreOrdered, tree_row, without}
use Rattle.vhd_chain.proofs.PlaceLaws.{within, read_at}
use Rattle.vhd_chain.proofs.OrderLaws.{ordered_without, without_at, without_none, others_of}
use Rattle.vhd_chain.proofs.trees.Tree.take.Goals as goal

spot : (c : goal.After-remove) → IsPlace c.self.inside.rows.items c.args.name.now c.in_ok-at.at
spot c = subst (λ (l : List TreeRow). IsPlace l c.args.name.now c.in_ok-at.at) c.deref.ensures.value c.in_ok-at.ensures.found

taken_out : (c : goal.After-remove) → c.remove.new.self.items ≡ without c.args.name.now c.self.inside.rows.items
taken_out c = c.remove.ensures.items ∙ without_at c.self.inside.rows.items c.args.name.now c.in_ok-at.at (spot c) c.self.invariant

pub returns-in_err-at-clause-rows : goal.returns-in_err-at-clause-rows
returns-in_err-at-clause-rows c =
    let none : tree_row c.self.inside.rows.items c.args.name.now ≡ None =
    subst (λ (l : List TreeRow). tree_row l c.args.name.now ≡ None) c.deref.ensures.value c.in_err-at.ensures.none in
    subst (λ (t : Tree). t.rows ≡ without c.args.name.now t.rows) c.self.view_is
    (sym (without_none c.self.inside.rows.items c.args.name.now (others_of c.self.inside.rows.items c.args.name.now none)))

pub remove-requires : goal.remove-requires
remove-requires c =
    let low = within c.deref.result.now c.args.name.now c.in_ok-at.at c.in_ok-at.ensures.found in omega (arith, low, c.deref.ensures.len)

pub invariant_of-self : goal.invariant_of-self
invariant_of-self c = subst AreOrdered (sym (taken_out c)) (ordered_without c.self.inside.rows.items c.args.name.now c.self.invariant)

pub returns-clause-taken : goal.returns-clause-taken
returns-clause-taken c =
    subst (λ (t : Tree). Some c.remove.result ≡ tree_row t.rows c.args.name.now) c.self.view_is
    (read_at c.self.inside.rows.items c.args.name.now c.in_ok-at.at c.remove.result (spot c) c.remove.ensures.value)

pub returns-clause-rows : goal.returns-clause-rows
returns-clause-rows c = subst (λ (t : Tree). c.remove.new.self.items ≡ without c.args.name.now t.rows) c.self.view_is (taken_out c)
