use Rattle.std.proofs.Common.{◌≡◌, ℕ, Bool, false, List, refl, sym, ap, ◌∙◌}
use Rattle.sm_base.specs.declared.operations.Mode.{Mode}
use Rattle.sm_machine.specs.declared.commands.Command.{Command}
use Rattle.sm_machine.specs.declared.commands.Command.TheVariants as command
use Rattle.sm_machine.specs.Shapes.{Shape}
use Rattle.sm_machine.specs.Refusals.{is_read_only}
use Rattle.sm_ready.specs.Known.{known, shape_in}
use Rattle.sm_refusals.proofs.causes.is_read_only.Goals as goal

-- no other command has it
other : (σ : Shape) (c : Command) → ((u : List ℕ) (sector : ℕ) (bytes : List ℕ) → c ≡ command.Write u sector bytes → ⊥) → ((u : List ℕ) (sector : ℕ) (count : ℕ) (byte : ℕ) → c ≡ command.Fill u sector count byte → ⊥) → ((u : List ℕ) (mode : Mode) → c ≡ command.Attach u mode → ⊥) → ((u : List ℕ) (size : ℕ) → c ≡ command.Resize u size → ⊥) → ((u : List ℕ) (on : Bool) → c ≡ command.Track u on → ⊥) → false ≡ is_read_only σ c
unfolding is_read_only
other σ (command.Write u sector bytes) no_write no_fill no_attach no_resize no_track = absurd (no_write u sector bytes refl)
other σ (command.Fill u sector count byte) no_write no_fill no_attach no_resize no_track = absurd (no_fill u sector count byte refl)
other σ (command.Attach u mode) no_write no_fill no_attach no_resize no_track = absurd (no_attach u mode refl)
other σ (command.Resize u size) no_write no_fill no_attach no_resize no_track = absurd (no_resize u size refl)
other σ (command.Track u on) no_write no_fill no_attach no_resize no_track = absurd (no_track u on refl)
other σ _ no_write no_fill no_attach no_resize no_track = refl

pub returns-in-Write : goal.returns-in-Write
unfolding is_read_only
returns-in-Write c = λ s t o tidy. c.is_only_read.ensures s t o tidy ∙ sym (ap (is_read_only (shape_in s t (known c.args.memory.now))) c.in-Write.is)

pub returns-in-Fill : goal.returns-in-Fill
unfolding is_read_only
returns-in-Fill c = λ s t o tidy. c.is_only_read-in-Fill.ensures s t o tidy ∙ sym (ap (is_read_only (shape_in s t (known c.args.memory.now))) c.in-Fill.is)

pub returns-in-Resize : goal.returns-in-Resize
unfolding is_read_only
returns-in-Resize c = λ s t o tidy. c.is_snapshot-in-Resize.ensures s t o tidy ∙ sym (ap (is_read_only (shape_in s t (known c.args.memory.now))) c.in-Resize.is)

pub returns-in-Rw : goal.returns-in-Rw
unfolding is_read_only
returns-in-Rw c = λ s t o tidy.
    c.is_snapshot.ensures s t o tidy ∙ sym (ap (is_read_only (shape_in s t (known c.args.memory.now))) (c.in-Attach.is ∙ ap (command.Attach c.in-Attach.disk) c.in-Rw.is))

pub returns-in-Ro : goal.returns-in-Ro
unfolding is_read_only
returns-in-Ro c = λ s t o tidy. sym (ap (is_read_only (shape_in s t (known c.args.memory.now))) (c.in-Attach.is ∙ ap (command.Attach c.in-Attach.disk) c.in-Ro.is))

pub returns-then-on : goal.returns-then-on
unfolding is_read_only
returns-then-on c = λ s t o tidy.
    c.is_snapshot-then-on.ensures s t o tidy
    ∙ sym (ap (is_read_only (shape_in s t (known c.args.memory.now))) (c.in-Track.is ∙ ap (command.Track c.in-Track.disk) c.if-on.true))

pub returns-else-on : goal.returns-else-on
unfolding is_read_only
returns-else-on c = λ s t o tidy.
    c.if-on.false ∙ sym (ap (is_read_only (shape_in s t (known c.args.memory.now))) (c.in-Track.is ∙ ap (command.Track c.in-Track.disk) c.if-on.false))

pub returns-in_default : goal.returns-in_default
returns-in_default c = λ s t o tidy. other (shape_in s t (known c.args.memory.now)) c.args.command.now c.in_default.not-Write c.in_default.not-Fill c.in_default.not-Attach c.in_default.not-Resize c.in_default.not-Track
