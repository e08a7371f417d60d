use Rattle.std.proofs.Common.{true, false, sym, ap, ◌∙◌}
use Rattle.std.specs.Option.{option_map}
use Rattle.sm_ready.specs.Known.{known, machine_row, shape_in}
use Rattle.gc_plan.specs.Planning.{as_pair}
use Rattle.gc_plan.proofs.PairLaws.{live_by, leaf_test, linked, skipped, unlinked}
use Rattle.gc_plan.proofs.pairs.live_of.Goals as goal

pub returns-then-not-is_used-clause-exact : goal.returns-then-not-is_used-clause-exact
returns-then-not-is_used-clause-exact c = λ s t o tidy i.
    let σ = shape_in s t (known c.args.memory.now) in
    let v = machine_row c.args.row.now in
    skipped σ v _ leaf_test _ (live_by σ v _ (c.is_used.ensures s t o tidy i)) c.if-not-is_used.true

pub returns-in_err-pair-clause-exact : goal.returns-in_err-pair-clause-exact
returns-in_err-pair-clause-exact c = λ s t o tidy i.
    let σ = shape_in s t (known c.args.memory.now) in
    let v = machine_row c.args.row.now in
    ap (option_map as_pair) c.from_residual.ensures ∙ unlinked σ v _ leaf_test _ (live_by σ v _ (c.is_used.ensures s t o tidy i)) c.if-not-is_used.false (c.in_err-pair.ensures.exact s t o tidy i)

pub returns-then-is_vhd-clause-exact : goal.returns-then-is_vhd-clause-exact
returns-then-is_vhd-clause-exact c = λ s t o tidy i.
    let σ = shape_in s t (known c.args.memory.now) in
    let v = machine_row c.args.row.now in
    linked σ v _ leaf_test _ (live_by σ v _ (c.is_used.ensures s t o tidy i)) c.if-not-is_used.false (as_pair c.in_ok-pair.pair) (c.in_ok-pair.ensures.exact s t o tidy i) true (sym c.if-is_vhd.true ∙ c.is_vhd.ensures)

pub returns-else-is_vhd-clause-exact : goal.returns-else-is_vhd-clause-exact
returns-else-is_vhd-clause-exact c = λ s t o tidy i.
    let σ = shape_in s t (known c.args.memory.now) in
    let v = machine_row c.args.row.now in
    linked σ v _ leaf_test _ (live_by σ v _ (c.is_used.ensures s t o tidy i)) c.if-not-is_used.false (as_pair c.in_ok-pair.pair) (c.in_ok-pair.ensures.exact s t o tidy i) false (sym c.if-is_vhd.false ∙ c.is_vhd.ensures)
