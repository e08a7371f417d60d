use Rattle.std.proofs.Common.{◌++◌, sym, ap, ◌∙◌}
use Rattle.sm_base.specs.declared.operations.Plan.TheVariants as plan
use Rattle.sm_machine.specs.Collector.{leaves, lives, pairs}
use Rattle.sm_ready.specs.Known.{known, shape_in}
use Rattle.gc_plan.specs.Planning.{lesser}
use Rattle.gc_plan.proofs.StepLaws.{blocked_is, idle_is, least_three}
use Rattle.gc_plan.proofs.finding.blocked.Goals as goal

pub returns-in-Some : goal.returns-in-Some
returns-in-Some c = λ s t same o tidy room.
    let σ = shape_in s t (known c.args.memory.now) in
    ap (plan.Blocked c.in-Some.need) room
    ∙ blocked_is σ (pairs σ ++ (leaves σ ++ lives σ)) c.in-Some.need
    (least_three σ (pairs σ) (leaves σ) (lives σ) (c.least_growth-hidden.ensures s t same o tidy) (c.least_growth-leaf.ensures s t same o tidy) (c.least_growth-live.ensures s t same o tidy)
    ∙ ap (lesser c.least_growth-hidden.result) (sym c.lesser.ensures) ∙ sym c.lesser-2.ensures ∙ c.in-Some.is)

pub returns-in-None : goal.returns-in-None
returns-in-None c = λ s t same o tidy room.
    let σ = shape_in s t (known c.args.memory.now) in
    idle_is σ (pairs σ ++ (leaves σ ++ lives σ))
    (least_three σ (pairs σ) (leaves σ) (lives σ) (c.least_growth-hidden.ensures s t same o tidy) (c.least_growth-leaf.ensures s t same o tidy) (c.least_growth-live.ensures s t same o tidy)
    ∙ ap (lesser c.least_growth-hidden.result) (sym c.lesser.ensures) ∙ sym c.lesser-2.ensures ∙ c.in-None.is)
