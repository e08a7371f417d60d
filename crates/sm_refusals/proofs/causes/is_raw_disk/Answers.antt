use Rattle.std.proofs.Common.{◌≡◌, ℕ, false, List, refl, sym, ap, ◌∙◌}
use Rattle.sm_machine.specs.declared.commands.Command.{Command}
use Rattle.sm_machine.specs.declared.commands.Command.TheVariants as command
use Rattle.sm_machine.specs.Shapes.{Shape}
use Rattle.sm_machine.specs.Refusals.{is_raw_disk}
use Rattle.sm_ready.specs.Known.{known, shape_in}
use Rattle.sm_refusals.proofs.causes.is_raw_disk.Goals as goal

-- no other command has it
other : (σ : Shape) (c : Command) → ((u : List ℕ) (size : ℕ) → c ≡ command.Resize u size → ⊥) → false ≡ is_raw_disk σ c
unfolding is_raw_disk
other σ (command.Resize u size) no_resize = absurd (no_resize u size refl)
other σ _ no_resize = refl

pub returns-in-Resize : goal.returns-in-Resize
unfolding is_raw_disk
returns-in-Resize c = λ s t o tidy. c.is_raw.ensures s t o tidy ∙ sym (ap (is_raw_disk (shape_in s t (known c.args.memory.now))) c.in-Resize.is)

pub returns-in_default : goal.returns-in_default
returns-in_default c = λ s t o tidy. other (shape_in s t (known c.args.memory.now)) c.args.command.now c.in_default.not-Resize
