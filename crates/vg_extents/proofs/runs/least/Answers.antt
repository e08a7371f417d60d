use Rattle.std.proofs.Common.{◌≤◌, ◌-◌, ◌^◌, length, take, ap, ◌∙◌, arith}
use Rattle.std.proofs.lemmas.List.{length-take}
use Rattle.vg_extents.specs.Runs.{extents_of}
use Rattle.vg_extents.proofs.RunLaws.{least_full, least_more, end_apart}
use Rattle.vg_extents.proofs.runs.least.Goals as goal

pub returns-then-len-need : goal.returns-then-len-need
returns-then-len-need c = least_full c.args.runs.now c.loop-run.run-index c.args.need c.loop-run.found.items c.loop-run.invariant (omega arith)

pub put-requires-clause-run : goal.put-requires-clause-run
put-requires-clause-run c = omega (arith, end_apart 0 (2 ^ 32 - 1) c.args.runs.now c.loop-run.run-index (record { first = 0; count = 0 }) c.requires c.loop-run-test.true)

pub loop-run-preserved : goal.loop-run-preserved
loop-run-preserved c =
    let few : length c.loop-run.found.items ≤ c.args.need = omega (arith, ap length c.loop-run.invariant, length-take c.args.need (extents_of (take c.loop-run.run-index c.args.runs.now))) in
    c.in_ok-put.ensures
    ∙ least_more c.args.runs.now c.loop-run.run-index c.args.need (record { first = 0; count = 0 }) c.loop-run.found.items c.loop-run-test.true c.loop-run.invariant (omega arith)
