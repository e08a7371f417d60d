use Rattle.std.proofs.Common.{◌≡◌, ◌≤◌, ◌+◌, ◌*◌, ℕ, Bool, false, List, refl, sym, ap, ap₂, ◌∙◌, subst}
use Rattle.sm_base.specs.declared.operations.Mode.{Mode}
use Rattle.sm_machine.specs.declared.commands.Command.{Command}
use Rattle.sm_machine.specs.declared.commands.Command.TheVariants as command
use Rattle.sm_machine.specs.Shapes.{Shape}
use Rattle.sm_base.specs.declared.sizes.Geometry.{Geometry}
use Rattle.sm_machine.specs.Refusals.{is_bad_size, log_need, need, rounded}
use Rattle.sm_ready.specs.Known.{known, shape_in}
use Rattle.sm_ready.specs.Refusing.{extents_for}
use Rattle.sm_ready.proofs.NeedLaws.{is_within}
use Rattle.sm_ready.proofs.needs.need.Goals as goal

-- no other command takes any
other : (σ : Shape) (c : Command) → ((u : List ℕ) (size : ℕ) (raw : Bool) (label : List ℕ) → c ≡ command.Create u size raw label → ⊥) → ((u : List ℕ) (mode : Mode) → c ≡ command.Attach u mode → ⊥) → ((u : List ℕ) (size : ℕ) → c ≡ command.Resize u size → ⊥) → ((u : List ℕ) (twin : List ℕ) → c ≡ command.Snapshot u twin → ⊥) → ((u : List ℕ) (twin : List ℕ) → c ≡ command.Clone u twin → ⊥) → ((u : List ℕ) (on : Bool) → c ≡ command.Track u on → ⊥) → 0 ≡ need σ c
unfolding need
other σ (command.Create u size raw label) no_create no_attach no_resize no_snapshot no_clone no_track = absurd (no_create u size raw label refl)
other σ (command.Attach u mode) no_create no_attach no_resize no_snapshot no_clone no_track = absurd (no_attach u mode refl)
other σ (command.Resize u size) no_create no_attach no_resize no_snapshot no_clone no_track = absurd (no_resize u size refl)
other σ (command.Snapshot u twin) no_create no_attach no_resize no_snapshot no_clone no_track = absurd (no_snapshot u twin refl)
other σ (command.Clone u twin) no_create no_attach no_resize no_snapshot no_clone no_track = absurd (no_clone u twin refl)
other σ (command.Track u on) no_create no_attach no_resize no_snapshot no_clone no_track = absurd (no_track u on refl)
other σ _ no_create no_attach no_resize no_snapshot no_clone no_track = refl

pub returns-then-raw : goal.returns-then-raw
unfolding need shape_in
returns-then-raw c = λ s t same o tidy good.
    c.extents_needed.ensures.extents ∙ ap (λ (g : Geometry). extents_for g.extent c.in-Create.size) (sym same)
    ∙ sym (ap (need (shape_in s t (known c.args.memory.now))) (c.in-Create.is ∙ ap (λ raw. command.Create c.in-Create.disk c.in-Create.size raw c.in-Create.label) c.if-raw.true))

pub returns-else-raw : goal.returns-else-raw
unfolding need
returns-else-raw c = λ s t same o tidy good.
    c.thin.ensures.exact s t (known c.args.memory.now) same
    ∙ sym (ap (need (shape_in s t (known c.args.memory.now))) (c.in-Create.is ∙ ap (λ raw. command.Create c.in-Create.disk c.in-Create.size raw c.in-Create.label) c.if-raw.false))

pub returns-in-Ro : goal.returns-in-Ro
unfolding need
returns-in-Ro c = λ s t same o tidy good. sym (ap (need (shape_in s t (known c.args.memory.now))) (c.in-Attach.is ∙ ap (command.Attach c.in-Attach.disk) c.in-Ro.is))

pub returns-in-Rw : goal.returns-in-Rw
unfolding need
returns-in-Rw c = λ s t same o tidy good. c.lacking_of.ensures s t same o tidy ∙ sym (ap (need (shape_in s t (known c.args.memory.now))) (c.in-Attach.is ∙ ap (command.Attach c.in-Attach.disk) c.in-Rw.is))

pub returns-in-Resize : goal.returns-in-Resize
unfolding need is_bad_size shape_in
returns-in-Resize c = λ s t same o tidy good.
    let σ = shape_in s t (known c.args.memory.now) in
    let sectors = c.rounded-sectors.ensures s t (known c.args.memory.now) same in
    let within = is_within σ c.in-Resize.size (sym (ap (is_bad_size σ) c.in-Resize.is) ∙ good) in
    (rw sectors at c.lacking_larger.ensures) (subst (λ (g : Geometry). rounded σ false c.in-Resize.size ≤ g.entries * g.block) same within) s t same o tidy
    ∙ sym (ap (need σ) c.in-Resize.is)

pub returns-in-Snapshot : goal.returns-in-Snapshot
unfolding need log_need shape_in
returns-in-Snapshot c = λ s t same o tidy good.
    ap₂ (λ a b. a + b) (c.fork_need.ensures.exact s t same o tidy) c.log_need.ensures.exact ∙ sym (ap (need (shape_in s t (known c.args.memory.now))) c.in-Snapshot.is)

pub returns-in-Clone : goal.returns-in-Clone
unfolding need
returns-in-Clone c = λ s t same o tidy good. c.fork_need-in-Clone.ensures.exact s t same o tidy ∙ sym (ap (need (shape_in s t (known c.args.memory.now))) c.in-Clone.is)

pub returns-then-on : goal.returns-then-on
unfolding need log_need
returns-then-on c = λ s t same o tidy good.
    c.log_room.ensures.exact s t same o tidy ∙ sym (ap (need (shape_in s t (known c.args.memory.now))) (c.in-Track.is ∙ ap (command.Track c.in-Track.disk) c.if-on.true))

pub returns-else-on : goal.returns-else-on
unfolding need
returns-else-on c = λ s t same o tidy good. sym (ap (need (shape_in s t (known c.args.memory.now))) (c.in-Track.is ∙ ap (command.Track c.in-Track.disk) c.if-on.false))

pub returns-in_default : goal.returns-in_default
returns-in_default c = λ s t same o tidy good. other (shape_in s t (known c.args.memory.now)) c.args.command.now c.in_default.not-Create c.in_default.not-Attach c.in_default.not-Resize c.in_default.not-Snapshot c.in_default.not-Clone c.in_default.not-Track
