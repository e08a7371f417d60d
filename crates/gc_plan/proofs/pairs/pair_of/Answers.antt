use Rattle.std.proofs.Common.{true, false, sym, ap, ◌∙◌}
use Rattle.std.specs.Option.{option_map}
use Rattle.sm_ready.specs.Known.{known, machine_row, shape_in}
use Rattle.gc_plan.specs.Planning.{as_pair}
use Rattle.gc_plan.proofs.PairLaws.{pair_by, pair_test, linked, skipped, unlinked}
use Rattle.gc_plan.proofs.pairs.pair_of.Goals as goal

pub returns-then-not-is_between-clause-exact : goal.returns-then-not-is_between-clause-exact
returns-then-not-is_between-clause-exact c = λ s t o tidy i.
    let σ = shape_in s t (known c.args.memory.now) in
    let v = machine_row c.args.row.now in
    skipped σ v _ pair_test _ (pair_by σ v _ (c.is_between.ensures s t o tidy i)) c.if-not-is_between.true

pub returns-in_err-pair-clause-exact : goal.returns-in_err-pair-clause-exact
returns-in_err-pair-clause-exact c = λ s t o tidy i.
    let σ = shape_in s t (known c.args.memory.now) in
    let v = machine_row c.args.row.now in
    ap (option_map as_pair) c.from_residual.ensures ∙ unlinked σ v _ pair_test _ (pair_by σ v _ (c.is_between.ensures s t o tidy i)) c.if-not-is_between.false (c.in_err-pair.ensures.exact s t o tidy i)

pub returns-then-is_proper-clause-exact : goal.returns-then-is_proper-clause-exact
returns-then-is_proper-clause-exact c = λ s t o tidy i.
    let σ = shape_in s t (known c.args.memory.now) in
    let v = machine_row c.args.row.now in
    linked σ v _ pair_test _ (pair_by σ v _ (c.is_between.ensures s t o tidy i)) c.if-not-is_between.false (as_pair c.in_ok-pair.pair) (c.in_ok-pair.ensures.exact s t o tidy i) true (sym c.if-is_proper.true ∙ c.is_proper.ensures)

pub returns-else-is_proper-clause-exact : goal.returns-else-is_proper-clause-exact
returns-else-is_proper-clause-exact c = λ s t o tidy i.
    let σ = shape_in s t (known c.args.memory.now) in
    let v = machine_row c.args.row.now in
    linked σ v _ pair_test _ (pair_by σ v _ (c.is_between.ensures s t o tidy i)) c.if-not-is_between.false (as_pair c.in_ok-pair.pair) (c.in_ok-pair.ensures.exact s t o tidy i) false (sym c.if-is_proper.false ∙ c.is_proper.ensures)
