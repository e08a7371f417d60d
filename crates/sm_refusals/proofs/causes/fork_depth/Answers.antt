use Rattle.std.proofs.Common.{ℕ, List, Option, Some, None, sym, ap, ◌∙◌}
use Rattle.sm_machine.specs.Refusals.{depth}
use Rattle.sm_ready.specs.Known.{known, shape_in}
use Rattle.sm_refusals.proofs.causes.fork_depth.Goals as goal

pub returns-in-Some : goal.returns-in-Some
returns-in-Some c = λ s t o tidy.
    c.depth.ensures s t o tidy ∙ sym (ap (λ (x : Option (List ℕ)). elim x as (λ _. ℕ) [ None ↦ 0 | Some u ↦ depth u (shape_in s t (known c.args.memory.now)) ]) (sym c.forked.ensures ∙ c.in-Some.is))

pub returns-in-None : goal.returns-in-None
returns-in-None c = λ s t o tidy.
    sym (ap (λ (x : Option (List ℕ)). elim x as (λ _. ℕ) [ None ↦ 0 | Some u ↦ depth u (shape_in s t (known c.args.memory.now)) ]) (sym c.forked.ensures ∙ c.in-None.is))
