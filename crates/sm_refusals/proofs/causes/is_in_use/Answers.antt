use Rattle.std.proofs.Common.{◌≡◌, ℕ, false, List, refl, sym, ap, ◌∙◌}
use Rattle.sm_base.specs.declared.operations.Mode.{Mode}
use Rattle.sm_machine.specs.declared.commands.Command.{Command}
use Rattle.sm_machine.specs.declared.commands.Command.TheVariants as command
use Rattle.sm_machine.specs.Shapes.{Shape}
use Rattle.sm_machine.specs.Refusals.{is_in_use}
use Rattle.sm_ready.specs.Known.{known, shape_in}
use Rattle.sm_refusals.proofs.causes.is_in_use.Goals as goal

-- no other command has it
other : (σ : Shape) (c : Command) → ((u : List ℕ) (mode : Mode) → c ≡ command.Attach u mode → ⊥) → ((u : List ℕ) → c ≡ command.Delete u → ⊥) → ((u : List ℕ) (size : ℕ) → c ≡ command.Resize u size → ⊥) → false ≡ is_in_use σ c
unfolding is_in_use
other σ (command.Attach u mode) no_attach no_delete no_resize = absurd (no_attach u mode refl)
other σ (command.Delete u) no_attach no_delete no_resize = absurd (no_delete u refl)
other σ (command.Resize u size) no_attach no_delete no_resize = absurd (no_resize u size refl)
other σ _ no_attach no_delete no_resize = refl

pub returns-in-Attach : goal.returns-in-Attach
unfolding is_in_use
returns-in-Attach c = λ s t o tidy. c.is_attached.ensures s t o tidy ∙ sym (ap (is_in_use (shape_in s t (known c.args.memory.now))) c.in-Attach.is)

pub returns-in-Delete : goal.returns-in-Delete
unfolding is_in_use
returns-in-Delete c = λ s t o tidy. c.is_attached-in-Delete.ensures s t o tidy ∙ sym (ap (is_in_use (shape_in s t (known c.args.memory.now))) c.in-Delete.is)

pub returns-in-Resize : goal.returns-in-Resize
unfolding is_in_use
returns-in-Resize c = λ s t o tidy. c.is_only_read.ensures s t o tidy ∙ sym (ap (is_in_use (shape_in s t (known c.args.memory.now))) c.in-Resize.is)

pub returns-in_default : goal.returns-in_default
returns-in_default c = λ s t o tidy. other (shape_in s t (known c.args.memory.now)) c.args.command.now c.in_default.not-Attach c.in_default.not-Delete c.in_default.not-Resize
