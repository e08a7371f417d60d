use Rattle.std.proofs.Common.{sym, ap, ◌∙◌, Some, None}
use Rattle.std.specs.Option.{option_map}
use Rattle.common_laws.specs.Lists.{given}
use Rattle.sm_machine.specs.Collector.{Pair}
use Rattle.sm_ready.specs.Known.{known, machine_row}
use Rattle.sm_ready.proofs.Orders.{In-tree_row}
use Rattle.gc_plan.specs.Planning.{as_pair}
use Rattle.gc_plan.proofs.PairLaws.{parent_is, vhd_child}
use Rattle.gc_plan.proofs.pairs.with_parent.Goals as goal

pub returns-in_err-parent-clause-exact : goal.returns-in_err-parent-clause-exact
returns-in_err-parent-clause-exact c = λ s t o tidy i.
    ap (option_map as_pair) c.from_residual-in_err-parent.ensures
    ∙ sym (parent_is s t (known c.args.memory.now) c.args.row.now c.in_ok-name.name None o (sym c.in_ok-name.ensures) (sym c.in_err-parent.ensures))

pub returns-then-has_one_child-clause-exact : goal.returns-then-has_one_child-clause-exact
returns-then-has_one_child-clause-exact c = λ s t o tidy i.
    let m = known c.args.memory.now in
    let p = c.in_ok-parent.parent.now in
    let there = In-tree_row m.rows c.in_ok-name.name p (sym c.in_ok-parent.ensures) in
    let q : Pair = record { child = machine_row c.args.row.now; parent = machine_row p } in
    ap (λ b. given b q) (sym c.if-has_one_child.true ∙ c.has_one_child.ensures s t o tidy there.0)
    ∙ sym (parent_is s t m c.args.row.now c.in_ok-name.name (Some p) o (sym c.in_ok-name.ensures) (sym c.in_ok-parent.ensures))

pub returns-then-has_one_child-clause-there : goal.returns-then-has_one_child-clause-there
returns-then-has_one_child-clause-there c = λ i. record {
  child = i;
  parent = (In-tree_row c.args.memory.now.tree.rows c.in_ok-name.name c.in_ok-parent.parent.now (sym c.in_ok-parent.ensures)).0;
  vhd = vhd_child c.args.row.now.image c.in_ok-name.name (sym c.in_ok-name.ensures);
}

pub returns-else-has_one_child-clause-exact : goal.returns-else-has_one_child-clause-exact
returns-else-has_one_child-clause-exact c = λ s t o tidy i.
    let m = known c.args.memory.now in
    let p = c.in_ok-parent.parent.now in
    let there = In-tree_row m.rows c.in_ok-name.name p (sym c.in_ok-parent.ensures) in
    let q : Pair = record { child = machine_row c.args.row.now; parent = machine_row p } in
    ap (λ b. given b q) (sym c.if-has_one_child.false ∙ c.has_one_child.ensures s t o tidy there.0)
    ∙ sym (parent_is s t m c.args.row.now c.in_ok-name.name (Some p) o (sym c.in_ok-name.ensures) (sym c.in_ok-parent.ensures))
