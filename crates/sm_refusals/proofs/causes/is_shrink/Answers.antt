use Rattle.std.proofs.Common.{◌≡◌, ℕ, false, nat_lt, List, refl, sym, ap, ap₂, ◌∙◌}
use Rattle.sm_machine.specs.declared.commands.Command.{Command}
use Rattle.sm_machine.specs.declared.commands.Command.TheVariants as command
use Rattle.sm_machine.specs.Shapes.{Shape}
use Rattle.std.specs.Option.{option_copied}
use Rattle.sm_machine.specs.Refusals.{is_shrink}
use Rattle.sm_ready.specs.Known.{known, shape_in}
use Rattle.sm_ready.proofs.LookLaws.{image_is}
use Rattle.sm_refusals.proofs.causes.is_shrink.Goals as goal

-- no other command has it
other : (σ : Shape) (c : Command) → ((u : List ℕ) (size : ℕ) → c ≡ command.Resize u size → ⊥) → false ≡ is_shrink σ c
unfolding is_shrink
other σ (command.Resize u size) no_resize = absurd (no_resize u size refl)
other σ _ no_resize = refl

pub returns-in-Some : goal.returns-in-Some
unfolding is_shrink
returns-in-Some c = λ s t same o tidy.
    let m = known c.args.memory.now in
    let is = image_is s t m c.in-Resize.disk _ o (sym c.image.ensures ∙ ap option_copied c.in-Some.is) in
    rw (c.in-Resize.is, is) (ap₂ (λ a b. nat_lt a b) (c.rounded.ensures s t m same) c.sectors.ensures)

pub returns-in-None : goal.returns-in-None
unfolding is_shrink
returns-in-None c = λ s t same o tidy.
    let m = known c.args.memory.now in
    let is = image_is s t m c.in-Resize.disk _ o (sym c.image.ensures ∙ ap option_copied c.in-None.is) in
    rw (c.in-Resize.is, is) refl

pub returns-in_default : goal.returns-in_default
returns-in_default c = λ s t same o tidy. other (shape_in s t (known c.args.memory.now)) c.args.command.now c.in_default.not-Resize
