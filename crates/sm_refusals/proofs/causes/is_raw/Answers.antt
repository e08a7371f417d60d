use Rattle.std.proofs.Common.{not, sym, ap, ◌∙◌}
use Rattle.std.specs.Option.{option_copied}
use Rattle.sm_machine.specs.Refusals.{of_some}
use Rattle.sm_machine.specs.Shapes.{ImageRow, is_vhd}
use Rattle.sm_ready.specs.Known.{known}
use Rattle.sm_ready.proofs.LookLaws.{image_is}
use Rattle.sm_refusals.proofs.causes.is_raw.Goals as goal

pub returns-in-Some : goal.returns-in-Some
returns-in-Some c = λ s t o tidy.
    ap not c.is_vhd.ensures ∙ sym (ap (of_some (λ (i : ImageRow). not (is_vhd i.name))) (image_is s t (known c.args.memory.now) c.args.disk.now _ o (sym c.image.ensures ∙ ap option_copied c.in-Some.is)))

pub returns-in-None : goal.returns-in-None
returns-in-None c = λ s t o tidy. sym (ap (of_some (λ (i : ImageRow). not (is_vhd i.name))) (image_is s t (known c.args.memory.now) c.args.disk.now _ o (sym c.image.ensures ∙ ap option_copied c.in-None.is)))
