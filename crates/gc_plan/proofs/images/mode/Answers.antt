use Rattle.std.proofs.Common.{sym, ap, ◌∙◌, arith}
use Rattle.sm_base.specs.declared.names.Name.{Name}
use Rattle.sm_machine.specs.Shapes.{attached_as, image_uuid}
use Rattle.sm_machine.specs.WellFormed.{is_image_name}
use Rattle.sm_ready.specs.Known.{known, shape_in}
use Rattle.sm_ready.proofs.LookLaws.{mode_found}
use Rattle.sm_ready.proofs.Orders.{named_row}
use Rattle.gc_plan.proofs.images.mode.Goals as goal

pub returns-in-Vhd : goal.returns-in-Vhd
unfolding image_uuid
returns-in-Vhd c = λ s t o tidy i.
    let m = known c.args.memory.now in
    c.mode.ensures ∙ sym (mode_found s t m c.in-Vhd.disk) ∙ ap (λ (n : Name). attached_as (image_uuid n) (shape_in s t m)) (sym c.in-Vhd.is ∙ c.name.ensures)

pub returns-in-Raw : goal.returns-in-Raw
unfolding image_uuid
returns-in-Raw c = λ s t o tidy i.
    let m = known c.args.memory.now in
    c.mode-in-Raw.ensures ∙ sym (mode_found s t m c.in-Raw.disk) ∙ ap (λ (n : Name). attached_as (image_uuid n) (shape_in s t m)) (sym c.in-Raw.is ∙ c.name.ensures)

pub returns-in-Mgt : goal.returns-in-Mgt
unfolding is_image_name
returns-in-Mgt c = λ s t o tidy i.
    let image = ap is_image_name c.name.ensures ∙ named_row s t (known c.args.memory.now) c.args.row.now o i in
    absurd (grind (arith, image, c.in-Mgt.is))
