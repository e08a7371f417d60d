use Rattle.std.proofs.Common.{ap}
use Rattle.sm_ready.specs.Known.{known, shape_in}
use Rattle.gc_plan.specs.Planning.{blocked_next, else_plan, folding}
use Rattle.gc_plan.specs.declared.pairs.Kind.TheVariants as kind
use Rattle.gc_plan.proofs.planning.plan_fold.Goals as goal

pub returns-in-Some : goal.returns-in-Some
returns-in-Some c = λ s t same o tidy room.
    let σ = shape_in s t (known c.args.memory.now) in
    ap (λ x. else_plan x (else_plan (folding kind.Leaf σ) (else_plan (folding kind.Live σ) (blocked_next σ)))) (c.in-Some.ensures s t same o tidy room)
