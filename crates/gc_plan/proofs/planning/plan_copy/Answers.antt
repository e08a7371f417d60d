use Rattle.std.proofs.Common.{ap, ◌∙◌, arith}
use Rattle.sm_base.specs.declared.operations.Plan.TheVariants as plan
use Rattle.sm_machine.specs.Collector.{copy_or}
use Rattle.sm_machine.specs.Shapes.{children}
use Rattle.sm_ready.specs.Known.{known, shape_in}
use Rattle.gc_plan.proofs.ImageLaws.{children_counted}
use Rattle.gc_plan.proofs.PlanLaws.{copy_given_up, copy_goes_on}
use Rattle.gc_plan.proofs.planning.plan_copy.Goals as goal

pub returns-then-child_count-eq0 : goal.returns-then-child_count-eq0
returns-then-child_count-eq0 c = λ s t o tidy.
    let m = known c.args.memory.now in
    let σ = shape_in s t m in
    copy_given_up σ c.args.child.now c.args.cursor (children c.args.child.now σ.images)
    (omega (arith, children_counted s t m c.args.child.now o, c.child_count.ensures, c.if-child_count-eq0.true))

pub returns : goal.returns
returns c = λ s t o tidy.
    let m = known c.args.memory.now in
    let σ = shape_in s t m in
    c.copy_or.ensures ∙ ap (copy_or plan.Turn) (c.next_block.ensures s t o tidy)
    ∙ copy_goes_on σ c.args.child.now c.args.cursor (children c.args.child.now σ.images)
    (omega (arith, children_counted s t m c.args.child.now o, c.child_count.ensures, c.if-child_count-eq0.false))
