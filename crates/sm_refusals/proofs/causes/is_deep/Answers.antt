use Rattle.std.proofs.Common.{◌≡◌, ℕ, List, Option, Some, None, refl, ap, ◌∙◌}
use Rattle.std.specs.Prelude.{nat_le}
use Rattle.sm_machine.specs.Refusals.{depth, forked, is_deep, of_some}
use Rattle.sm_machine.specs.Shapes.{Shape}
use Rattle.sm_ready.specs.Known.{known, shape_in}
use Rattle.sm_refusals.proofs.causes.is_deep.Goals as goal

by_depth : (σ : Shape) (x : Option (List ℕ)) → nat_le 30 (elim x as (λ _. ℕ) [ None ↦ 0 | Some u ↦ depth u σ ]) ≡ of_some (λ u. nat_le 30 (depth u σ)) x
by_depth σ None = refl
by_depth σ (Some u) = refl

pub returns : goal.returns
unfolding is_deep
returns c = λ s t o tidy. ap (nat_le 30) (c.fork_depth.ensures s t o tidy) ∙ by_depth (shape_in s t (known c.args.memory.now)) (forked c.args.command.now)
