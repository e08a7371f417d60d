use Rattle.std.proofs.Common.{◌≡◌, ℕ, false, not, List, refl, sym, ap, ◌∙◌}
use Rattle.sm_machine.specs.declared.commands.Command.{Command}
use Rattle.sm_machine.specs.declared.commands.Command.TheVariants as command
use Rattle.sm_machine.specs.Shapes.{Shape}
use Rattle.sm_machine.specs.Refusals.{is_not_attached}
use Rattle.sm_ready.specs.Known.{known, shape_in}
use Rattle.sm_ready.proofs.LookLaws.{not_some}
use Rattle.sm_refusals.proofs.causes.is_not_attached.Goals as goal

-- no other command has it
other : (σ : Shape) (c : Command) → ((u : List ℕ) (sector : ℕ) (bytes : List ℕ) → c ≡ command.Write u sector bytes → ⊥) → ((u : List ℕ) (sector : ℕ) (count : ℕ) (byte : ℕ) → c ≡ command.Fill u sector count byte → ⊥) → ((u : List ℕ) (sector : ℕ) (count : ℕ) → c ≡ command.Read u sector count → ⊥) → ((u : List ℕ) → c ≡ command.Flush u → ⊥) → ((u : List ℕ) → c ≡ command.Detach u → ⊥) → false ≡ is_not_attached σ c
unfolding is_not_attached
other σ (command.Write u sector bytes) no_write no_fill no_read no_flush no_detach = absurd (no_write u sector bytes refl)
other σ (command.Fill u sector count byte) no_write no_fill no_read no_flush no_detach = absurd (no_fill u sector count byte refl)
other σ (command.Read u sector count) no_write no_fill no_read no_flush no_detach = absurd (no_read u sector count refl)
other σ (command.Flush u) no_write no_fill no_read no_flush no_detach = absurd (no_flush u refl)
other σ (command.Detach u) no_write no_fill no_read no_flush no_detach = absurd (no_detach u refl)
other σ _ no_write no_fill no_read no_flush no_detach = refl

pub returns-in-Write : goal.returns-in-Write
unfolding is_not_attached
returns-in-Write c = λ s t o tidy. ap not (c.is_attached.ensures s t o tidy) ∙ not_some _ ∙ sym (ap (is_not_attached (shape_in s t (known c.args.memory.now))) c.in-Write.is)

pub returns-in-Fill : goal.returns-in-Fill
unfolding is_not_attached
returns-in-Fill c = λ s t o tidy. ap not (c.is_attached-in-Fill.ensures s t o tidy) ∙ not_some _ ∙ sym (ap (is_not_attached (shape_in s t (known c.args.memory.now))) c.in-Fill.is)

pub returns-in-Read : goal.returns-in-Read
unfolding is_not_attached
returns-in-Read c = λ s t o tidy. ap not (c.is_attached-in-Read.ensures s t o tidy) ∙ not_some _ ∙ sym (ap (is_not_attached (shape_in s t (known c.args.memory.now))) c.in-Read.is)

pub returns-in-Flush : goal.returns-in-Flush
unfolding is_not_attached
returns-in-Flush c = λ s t o tidy. ap not (c.is_attached-in-Flush.ensures s t o tidy) ∙ not_some _ ∙ sym (ap (is_not_attached (shape_in s t (known c.args.memory.now))) c.in-Flush.is)

pub returns-in-Detach : goal.returns-in-Detach
unfolding is_not_attached
returns-in-Detach c = λ s t o tidy. ap not (c.is_attached-in-Detach.ensures s t o tidy) ∙ not_some _ ∙ sym (ap (is_not_attached (shape_in s t (known c.args.memory.now))) c.in-Detach.is)

pub returns-in_default : goal.returns-in_default
returns-in_default c = λ s t o tidy. other (shape_in s t (known c.args.memory.now)) c.args.command.now c.in_default.not-Write c.in_default.not-Fill c.in_default.not-Read c.in_default.not-Flush c.in_default.not-Detach
