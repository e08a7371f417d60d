use Rattle.std.proofs.Common.{get_or, ◌∙◌, sym, ap, ℕ, ◌+◌, ◌-◌, ◌^◌, arith}
use Rattle.vg_extents.proofs.RunLaws.{count-taken, count-more}
use Rattle.vg_extents.proofs.runs.count_of.Goals as goal

pub overflow_add-count : goal.overflow_add-count
overflow_add-count c =
    let i = c.loop-run.run-index in
    omega (
      arith,
      c.loop-run.invariant,
      count-more c.args.runs.now i (record { first = 0; count = 0 }) c.loop-run-test.true,
      count-taken c.args.runs.now (i + 1) (2 ^ 32 - 1) c.requires,
    )

pub loop-run-preserved : goal.loop-run-preserved
loop-run-preserved c =
    ap (λ (n : ℕ). n + (get_or c.args.runs.now c.loop-run.run-index (record { first = 0; count = 0 })).count) c.loop-run.invariant
    ∙ sym (count-more c.args.runs.now c.loop-run.run-index (record { first = 0; count = 0 }) c.loop-run-test.true)
