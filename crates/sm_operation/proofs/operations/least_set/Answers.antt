use Rattle.std.proofs.Common.{Some, refl, sym, ap, ◌∙◌, arith}
use Rattle.sm_operation.specs.Kept.{least}
use Rattle.sm_operation.proofs.FlagLaws.{flagged_end, flagged_here, flagged_next}
use Rattle.sm_operation.proofs.operations.least_set.Goals as goal

pub loop-place-init : goal.loop-place-init
loop-place-init c = refl

pub returns-then-flags-place : goal.returns-then-flags-place
returns-then-flags-place c = sym (ap least c.loop-place.invariant ∙ flagged_here 0 c.loop-place.place c.args.flags.now c.if-flags-place.true ∙ ap Some (omega arith))

pub loop-place-preserved : goal.loop-place-preserved
loop-place-preserved c = c.loop-place.invariant ∙ flagged_next 0 c.loop-place.place c.args.flags.now c.loop-place-test.true c.if-flags-place.false

pub returns : goal.returns
returns c = sym (ap least (c.loop-place.invariant ∙ flagged_end 0 c.loop-place.place c.args.flags.now (omega (arith, c.loop-place-test.false))))
