use Rattle.std.proofs.Common.{◌≡◌, ◌+◌, ◌==◌, ◌||◌, nat_lt, Bool, true, false, refl, sym, ap, ◌∙◌}
use Rattle.std.specs.Option.{option_copied}
use Rattle.sm_machine.specs.Refusals.{of_some}
use Rattle.sm_machine.specs.Shapes.{ImageRow}
use Rattle.sm_ready.specs.Known.{known}
use Rattle.sm_ready.proofs.LookLaws.{image_is}
use Rattle.sm_refusals.proofs.causes.is_outside.Goals as goal

or_none : (b : Bool) → b ≡ (b || false)
or_none true = refl
or_none false = refl

pub returns-in-Some : goal.returns-in-Some
returns-in-Some c = λ s t o tidy.
    let is = image_is s t (known c.args.memory.now) c.args.disk.now _ o (sym c.image.ensures ∙ ap option_copied c.in-Some.is) in
    c.is_past.ensures ∙ ap (λ n. (c.args.count == 0) || nat_lt n (c.args.sector + c.args.count)) c.sectors.ensures ∙ sym (ap (λ x. (c.args.count == 0) || of_some (λ (i : ImageRow). nat_lt i.size (c.args.sector + c.args.count)) x) is)

pub returns-in-None : goal.returns-in-None
returns-in-None c = λ s t o tidy.
    let is = image_is s t (known c.args.memory.now) c.args.disk.now _ o (sym c.image.ensures ∙ ap option_copied c.in-None.is) in
    or_none (c.args.count == 0) ∙ sym (ap (λ x. (c.args.count == 0) || of_some (λ (i : ImageRow). nat_lt i.size (c.args.sector + c.args.count)) x) is)
