use Rattle.std.proofs.Common.{◌≡◌, ℕ, Bool, false, is_some, List, refl, sym, ap, ◌∙◌}
use Rattle.sm_machine.specs.declared.commands.Command.{Command}
use Rattle.sm_machine.specs.declared.commands.Command.TheVariants as command
use Rattle.sm_machine.specs.Shapes.{Shape}
use Rattle.sm_machine.specs.Refusals.{is_tracked}
use Rattle.sm_ready.specs.Known.{known, shape_in}
use Rattle.sm_ready.proofs.LookLaws.{some_copied}
use Rattle.sm_refusals.proofs.causes.is_tracked.Goals as goal

-- no other command has it
other : (σ : Shape) (c : Command) → ((u : List ℕ) (size : ℕ) → c ≡ command.Resize u size → ⊥) → ((u : List ℕ) (on : Bool) → c ≡ command.Track u on → ⊥) → false ≡ is_tracked σ c
unfolding is_tracked
other σ (command.Resize u size) no_resize no_track = absurd (no_resize u size refl)
other σ (command.Track u on) no_resize no_track = absurd (no_track u on refl)
other σ _ no_resize no_track = refl

pub returns-in-Resize : goal.returns-in-Resize
unfolding is_tracked shape_in
returns-in-Resize c = λ s t o tidy. c.is_some.ensures ∙ some_copied c.get.result ∙ ap (λ l. is_some l) c.get.ensures ∙ sym (ap (is_tracked (shape_in s t (known c.args.memory.now))) c.in-Resize.is)

pub returns-then-on : goal.returns-then-on
unfolding is_tracked shape_in
returns-then-on c = λ s t o tidy.
    c.is_some-then-on.ensures ∙ some_copied c.get-then-on.result ∙ ap (λ l. is_some l) c.get-then-on.ensures
    ∙ sym (ap (is_tracked (shape_in s t (known c.args.memory.now))) (c.in-Track.is ∙ ap (command.Track c.in-Track.disk) c.if-on.true))

pub returns-else-on : goal.returns-else-on
unfolding is_tracked
returns-else-on c = λ s t o tidy.
    c.if-on.false ∙ sym (ap (is_tracked (shape_in s t (known c.args.memory.now))) (c.in-Track.is ∙ ap (command.Track c.in-Track.disk) c.if-on.false))

pub returns-in_default : goal.returns-in_default
returns-in_default c = λ s t o tidy. other (shape_in s t (known c.args.memory.now)) c.args.command.now c.in_default.not-Resize c.in_default.not-Track
