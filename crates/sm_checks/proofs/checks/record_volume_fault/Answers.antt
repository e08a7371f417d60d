use Rattle.std.proofs.Common.{not, length, sym, ap, ◌∙◌, eq-eqb}
use Rattle.std.proofs.lemmas.Bool.{eqb-true, false_from_ne_true}
use Rattle.sm_base.specs.declared.faults.Place.TheVariants as at
use Rattle.vg_layout.specs.Places.{record_extents}
use Rattle.common_laws.specs.Lists.{given}
use Rattle.sm_checks.proofs.CheckLaws.{record_volume_at}
use Rattle.sm_checks.proofs.checks.record_volume_fault.Goals as goal
use Rattle.sm_checks.proofs.checks.record_volume_fault.Goals.{in_default-via-in-Some+else-extents-record_extents, in_default-via-in_default}

pub returns-in-Some : goal.returns-in-Some
returns-in-Some c = λ seen is.
    let long = ap length (sym c.extents.ensures.extents) ∙ c.if-extents-record_extents.true ∙ c.record_extents.ensures ∙ ap record_extents (sym is.extent) in
    sym (record_volume_at is c.in-Some.ensures.found.row ∙ ap (λ b. given (not b) at.Mgt) (eq-eqb _ _ long))

pub returns-in_default : goal.returns-in_default
returns-in_default c = λ seen is.
    elim c.in_default.branch [
      | in_default-via-in-Some+else-extents-record_extents w ↦
          sym (record_volume_at is w.in-Some.ensures.found.row ∙ ap (λ b. given (not b) at.Mgt) (false_from_ne_true _ (λ e.
          w.if-extents-record_extents.false (ap length w.extents.ensures.extents ∙ eqb-true _ _ e ∙ ap record_extents is.extent ∙ sym w.record_extents.ensures))))
      | in_default-via-in_default w ↦ sym (record_volume_at is w.in_default.ensures.none)
    ]
