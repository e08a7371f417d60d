use Rattle.std.proofs.Common.{◌≡◌, ℕ, Bool, false, List, refl, sym, ap, ◌∙◌}
use Rattle.sm_machine.specs.declared.commands.Command.{Command}
use Rattle.sm_machine.specs.declared.commands.Command.TheVariants as command
use Rattle.sm_machine.specs.Shapes.{Shape}
use Rattle.sm_machine.specs.Refusals.{is_bad_size}
use Rattle.sm_ready.specs.Known.{shape_in}
use Rattle.sm_refusals.proofs.causes.is_bad_size.Goals as goal

-- no other command has it
other : (σ : Shape) (c : Command) → ((u : List ℕ) (size : ℕ) (raw : Bool) (label : List ℕ) → c ≡ command.Create u size raw label → ⊥) → ((u : List ℕ) (size : ℕ) → c ≡ command.Resize u size → ⊥) → false ≡ is_bad_size σ c
unfolding is_bad_size
other σ (command.Create u size raw label) no_create no_resize = absurd (no_create u size raw label refl)
other σ (command.Resize u size) no_create no_resize = absurd (no_resize u size refl)
other σ _ no_create no_resize = refl

pub returns-in-Create : goal.returns-in-Create
unfolding is_bad_size
returns-in-Create c = λ s t m same. c.is_bad.ensures s t m same ∙ sym (ap (is_bad_size (shape_in s t m)) c.in-Create.is)

pub returns-in-Resize : goal.returns-in-Resize
unfolding is_bad_size
returns-in-Resize c = λ s t m same. c.is_bad-in-Resize.ensures s t m same ∙ sym (ap (is_bad_size (shape_in s t m)) c.in-Resize.is)

pub returns-in_default : goal.returns-in_default
returns-in_default c = λ s t m same. other (shape_in s t m) c.args.command.now c.in_default.not-Create c.in_default.not-Resize
