use Rattle.std.proofs.Common.{◌≡◌, ◌/◌, ◌%◌, ◌==◌, ℕ, false, not, List, refl, sym, ap, ◌∙◌}
use Rattle.sm_machine.specs.declared.commands.Command.{Command}
use Rattle.sm_machine.specs.declared.commands.Command.TheVariants as command
use Rattle.sm_machine.specs.Shapes.{Shape}
use Rattle.sm_machine.specs.Refusals.{is_out_of_range, is_outside}
use Rattle.sm_ready.specs.Known.{known, shape_in}
use Rattle.sm_refusals.proofs.TurnLaws.{or_first, or_rest}
use Rattle.sm_refusals.proofs.causes.is_out_of_range.Goals as goal

-- no other command has it
other : (σ : Shape) (c : Command) → ((u : List ℕ) (sector : ℕ) (bytes : List ℕ) → c ≡ command.Write u sector bytes → ⊥) → ((u : List ℕ) (sector : ℕ) (count : ℕ) (byte : ℕ) → c ≡ command.Fill u sector count byte → ⊥) → ((u : List ℕ) (sector : ℕ) (count : ℕ) → c ≡ command.Read u sector count → ⊥) → false ≡ is_out_of_range σ c
unfolding is_out_of_range
other σ (command.Write u sector bytes) no_write no_fill no_read = absurd (no_write u sector bytes refl)
other σ (command.Fill u sector count byte) no_write no_fill no_read = absurd (no_fill u sector count byte refl)
other σ (command.Read u sector count) no_write no_fill no_read = absurd (no_read u sector count refl)
other σ _ no_write no_fill no_read = refl

pub returns-then-is_outside : goal.returns-then-is_outside
unfolding is_out_of_range
returns-then-is_outside c = λ s t o tidy. rw (c.in-Write.is)
    (or_first _ _ _ c.if-is_outside.true (c.is_outside.ensures s t o tidy ∙ ap (λ n. is_outside (shape_in s t (known c.args.memory.now)) c.in-Write.disk c.in-Write.sector (n / 512)) c.byte_count-length.ensures))

pub returns-else-is_outside : goal.returns-else-is_outside
unfolding is_out_of_range
returns-else-is_outside c = λ s t o tidy. rw (c.in-Write.is)
    (or_rest _ _ _ _ c.if-is_outside.false (c.is_outside.ensures s t o tidy ∙ ap (λ n. is_outside (shape_in s t (known c.args.memory.now)) c.in-Write.disk c.in-Write.sector (n / 512)) c.byte_count-length.ensures) (ap (λ n. not (n % 512 == 0)) (c.byte_count-length.ensures)))

pub returns-in-Fill : goal.returns-in-Fill
unfolding is_out_of_range
returns-in-Fill c = λ s t o tidy. c.is_outside-in-Fill.ensures s t o tidy ∙ sym (ap (is_out_of_range (shape_in s t (known c.args.memory.now))) c.in-Fill.is)

pub returns-then-is_outside-2 : goal.returns-then-is_outside-2
unfolding is_out_of_range
returns-then-is_outside-2 c = λ s t o tidy. rw (c.in-Read.is) (or_first _ _ _ c.if-is_outside-2.true (c.is_outside-in-Read.ensures s t o tidy))

pub returns-else-is_outside-2 : goal.returns-else-is_outside-2
unfolding is_out_of_range
returns-else-is_outside-2 c = λ s t o tidy. rw (c.in-Read.is) (or_rest _ _ _ _ c.if-is_outside-2.false (c.is_outside-in-Read.ensures s t o tidy) refl)

pub returns-in_default : goal.returns-in_default
returns-in_default c = λ s t o tidy. other (shape_in s t (known c.args.memory.now)) c.args.command.now c.in_default.not-Write c.in_default.not-Fill c.in_default.not-Read
