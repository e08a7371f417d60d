use Rattle.std.proofs.Common.{◌≡◌, ℕ, true, false, List, Option, Some, None, sym, ap, ◌∙◌}
use Rattle.std.specs.Option.{option_copied}
use Rattle.sm_base.specs.declared.operations.Mode.{Mode}
use Rattle.sm_base.specs.declared.operations.Mode.TheVariants.{Ro, Rw}
use Rattle.sm_machine.specs.Refusals.{lacking_for, lacking_larger, with_image_of}
use Rattle.sm_machine.specs.Shapes.{ImageRow, Shape, attached_as, disk_image, is_rw}
use Rattle.sm_ready.specs.Known.{known, machine_row, shape_in}
use Rattle.sm_ready.proofs.LookLaws.{image_is, mode_found}
use Rattle.sm_ready.proofs.needs.lacking_larger.Goals as goal

-- what the machine's image lacks, by how its disk is attached
larger : (σ : Shape) (u : List ℕ) (size : ℕ) (i : ImageRow) (x : Option Mode) → disk_image u σ ≡ Some i → attached_as u σ ≡ x
    → elim (is_rw x) as (λ _. ℕ) [ true ↦ lacking_for σ size i | false ↦ 0 ] ≡ with_image_of (lacking_larger σ u size) (disk_image u σ)
larger σ u size i x is mode =
    sym (ap (λ y. elim (is_rw y) as (λ _. ℕ) [ true ↦ lacking_for σ size i | false ↦ 0 ]) mode) ∙ sym (ap (with_image_of (lacking_larger σ u size)) is)

pub returns-in_default : goal.returns-in_default
returns-in_default c = λ within s t same o tidy.
    sym (ap (with_image_of (lacking_larger (shape_in s t (known c.args.memory.now)) c.args.disk.now c.args.sectors)) (image_is s t (known c.args.memory.now) c.args.disk.now _ o (sym c.image.ensures ∙ ap option_copied c.in_default.is)))

pub returns-in-Some-Rw : goal.returns-in-Some-Rw
returns-in-Some-Rw c = λ within s t same o tidy.
    let m = known c.args.memory.now in
    c.lacking_for.ensures within s t m same
    ∙ larger (shape_in s t m) c.args.disk.now c.args.sectors (machine_row c.in-Some.row.now) (Some Rw) (image_is s t m c.args.disk.now _ o (sym c.image.ensures ∙ ap option_copied c.in-Some.is))
    (mode_found s t m c.args.disk.now ∙ sym c.mode.ensures ∙ c.in-Some-Rw.is ∙ ap Some c.in-Some-Rw.field-0-is)

pub returns-in-Some-Ro : goal.returns-in-Some-Ro
returns-in-Some-Ro c = λ within s t same o tidy.
    let m = known c.args.memory.now in
    larger (shape_in s t m) c.args.disk.now c.args.sectors (machine_row c.in-Some.row.now) (Some Ro) (image_is s t m c.args.disk.now _ o (sym c.image.ensures ∙ ap option_copied c.in-Some.is))
    (mode_found s t m c.args.disk.now ∙ sym c.mode.ensures ∙ c.in-Some-Ro.is ∙ ap Some c.in-Some-Ro.field-0-is)

pub returns-in-None : goal.returns-in-None
returns-in-None c = λ within s t same o tidy.
    let m = known c.args.memory.now in
    larger (shape_in s t m) c.args.disk.now c.args.sectors (machine_row c.in-Some.row.now) None (image_is s t m c.args.disk.now _ o (sym c.image.ensures ∙ ap option_copied c.in-Some.is))
    (mode_found s t m c.args.disk.now ∙ sym c.mode.ensures ∙ c.in-None.is)
