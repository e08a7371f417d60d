use Rattle.std.proofs.Common.{Some, ap, ◌∙◌}
use Rattle.std.specs.Option.{option_map}
use Rattle.sm_machine.specs.Collector.{growth}
use Rattle.sm_ready.specs.Known.{known, shape_in}
use Rattle.gc_plan.proofs.finding.growth_at.Goals as goal

pub returns-in_err-pair : goal.returns-in_err-pair
returns-in_err-pair c = λ s t same o tidy i.
    c.from_residual.ensures ∙ ap (option_map (growth (shape_in s t (known c.args.memory.now)))) (c.in_err-pair.ensures.exact s t o tidy i)

pub returns : goal.returns
returns c = λ s t same o tidy i.
    let m = known c.args.memory.now in
    ap Some (c.growth.ensures s t same o tidy (c.in_ok-pair.ensures.there i)) ∙ ap (option_map (growth (shape_in s t m))) (c.in_ok-pair.ensures.exact s t o tidy i)
