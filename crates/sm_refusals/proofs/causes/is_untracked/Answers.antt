use Rattle.std.proofs.Common.{◌≡◌, ℕ, Bool, true, false, not, is_none, is_some, List, Option, refl, sym, ap, ◌∙◌}
use Rattle.sm_machine.specs.declared.commands.Command.{Command}
use Rattle.sm_machine.specs.declared.commands.Command.TheVariants as command
use Rattle.sm_machine.specs.Shapes.{Shape}
use Rattle.sm_machine.specs.Refusals.{disk_pieces, is_untracked}
use Rattle.sm_ready.specs.Known.{known, shape_in}
use Rattle.sm_ready.proofs.LookLaws.{not_some, some_copied}
use Rattle.sm_refusals.proofs.causes.is_untracked.Goals as goal

-- no other command has it
other : (σ : Shape) (c : Command) → ((u : List ℕ) (on : Bool) → c ≡ command.Track u on → ⊥) → ((u n : List ℕ) → c ≡ command.Changed u n → ⊥) → false ≡ is_untracked σ c
unfolding is_untracked
other σ (command.Track u on) no_track no_changed = absurd (no_track u on refl)
other σ (command.Changed u n) no_track no_changed = absurd (no_changed u n refl)
other σ _ no_track no_changed = refl

none_of : {A : Type 0} (b : Bool) (x : Option A) → is_some x ≡ not b → b ≡ not (is_some x)
none_of true x e = ap not (sym e)
none_of false x e = ap not (sym e)

pub returns-then-not-on : goal.returns-then-not-on
unfolding is_untracked shape_in
returns-then-not-on c = λ s t o tidy.
    none_of c.is_none.result c.get.result c.is_none.ensures ∙ ap not (some_copied c.get.result) ∙ not_some _ ∙ ap (λ l. is_none l) c.get.ensures
    ∙ sym (ap (is_untracked (shape_in s t (known c.args.memory.now))) (c.in-Track.is ∙ ap (command.Track c.in-Track.disk) c.if-not-on.true))

pub returns-else-not-on : goal.returns-else-not-on
unfolding is_untracked
returns-else-not-on c = λ s t o tidy.
    ap not c.if-not-on.false ∙ sym (ap (is_untracked (shape_in s t (known c.args.memory.now))) (c.in-Track.is ∙ ap (command.Track c.in-Track.disk) c.if-not-on.false))

pub returns-in-Changed : goal.returns-in-Changed
unfolding is_untracked shape_in
returns-in-Changed c = λ s t o tidy.
    ap not (c.leads.ensures (disk_pieces c.in-Changed.from (shape_in s t (known c.args.memory.now)))) ∙ not_some _
    ∙ sym (ap (is_untracked (shape_in s t (known c.args.memory.now))) c.in-Changed.is)

pub returns-in_default : goal.returns-in_default
returns-in_default c = λ s t o tidy. other (shape_in s t (known c.args.memory.now)) c.args.command.now c.in_default.not-Track c.in_default.not-Changed
