use Rattle.std.proofs.Common.{◌-◌, ◌^◌, ◌<◌, length, refl, sym, ◌∙◌, ⊎_elim, arith}
use Rattle.std.proofs.lemmas.List.{nil_from_length}
use Rattle.std.proofs.lemmas.Bool.{true≢false, eqb-true, eq-eqb, cases_eq}
use Rattle.vg_meta.specs.Roomy.{rows_alone}
use Rattle.vg_meta.specs.Stopped.{IsCut}
use Rattle.vg_meta.proofs.WriteLaws.{length-rows}
use Rattle.vg_meta.proofs.ByName.{IsTable-wider}
use Rattle.vg_meta.proofs.DecodeLaws.{damaged_first, damaged_sequence, damaged_volume, damaged_end, spells_whole}
use Rattle.vg_meta.specs.Reading.{no_number, SpellsBy}
use Rattle.vg_meta.specs.Tables.{VolumeTable}
use Rattle.vg_meta.proofs.tables.Table.decode_by.Goals as goal

pub returns-in_default-clause-fault : goal.returns-in_default-clause-fault
returns-in_default-clause-fault c = (0, damaged_first c.args.extents c.args.bytes.now c.in_default.ensures.none, refl)

pub returns-then-seq-gt-LAST_SEQUENCE-clause-fault : goal.returns-then-seq-gt-LAST_SEQUENCE-clause-fault
returns-then-seq-gt-LAST_SEQUENCE-clause-fault c =
    (0, damaged_sequence c.args.extents c.args.bytes.now c.in-Some.seq c.in-Some.rest.now c.in-Some.ensures.number c.in-Some.ensures.fits (omega arith), refl)

pub returns-in_default-number_at-clause-fault : goal.returns-in_default-number_at-clause-fault
returns-in_default-number_at-clause-fault c =
    (8, no_number c.in-Some.seq c.in-Some.rest.now (omega arith) c.in-Some.ensures.number c.in_default-number_at.ensures.none, refl)

pub returns-in-Err-Damaged-clause-fault : goal.returns-in-Err-Damaged-clause-fault
returns-in-Err-Damaged-clause-fault c =
    let cut : IsCut c.args.grammar c.args.extents c.in-Some-number_at.number c.in-Some-number_at.rest.now c.in-Err-Damaged.left = rw c.in-Err-Damaged.field-0-is at c.in-Err-Damaged.ensures.damaged in (
      length c.args.bytes.now - c.in-Err-Damaged.left,
      damaged_volume c.args.extents c.in-Some.seq c.in-Some-number_at.number c.in-Err-Damaged.left c.args.bytes.now c.in-Some.rest.now c.in-Some-number_at.rest.now
          c.in-Some.ensures.number c.in-Some-number_at.ensures.number (omega arith) c.in-Some-number_at.ensures.fits cut,
      c.told-at.ensures,
    )

pub returns-then-not-is_empty-clause-fault : goal.returns-then-not-is_empty-clause-fault
returns-then-not-is_empty-clause-fault c =
    let some : 0 < length c.in-Ok.read.1.now = ⊎_elim (λ none. absurd (true≢false (sym (eq-eqb (length c.in-Ok.read.1.now) 0 none) ∙ sym c.is_empty.ensures ∙ c.if-not-is_empty.true)))
    (λ more. omega arith) (cases_eq (length c.in-Ok.read.1.now) 0) in (
      length c.args.bytes.now - length c.in-Ok.read.1.now,
      damaged_end c.args.extents c.in-Some.seq c.in-Some-number_at.number c.args.bytes.now c.in-Some.rest.now c.in-Some-number_at.rest.now c.in-Ok.read.1.now (rows_alone c.in-Ok.read.0.items)
          c.in-Some.ensures.number c.in-Some-number_at.ensures.number (omega arith) c.in-Some-number_at.ensures.fits c.in-Ok.ensures.text c.in-Ok.ensures.volumes
          (length-rows c.in-Ok.read.0.items ∙ c.in-Ok.ensures.number) some,
      c.told-at-then-not-is_empty.ensures,
    )

whole : (c : goal.Else-not-is_empty) → (let t : VolumeTable = record { sequence = c.in-Some.seq; volumes = rows_alone c.in-Ok.read.0.items } in SpellsBy c.args.grammar c.args.extents c.args.bytes.now t)
whole c =
    spells_whole c.args.extents c.in-Some.seq c.in-Some-number_at.number c.args.bytes.now c.in-Some.rest.now c.in-Some-number_at.rest.now c.in-Ok.read.1.now (rows_alone c.in-Ok.read.0.items)
    c.in-Some.ensures.number c.in-Some-number_at.ensures.number (omega arith) c.in-Some-number_at.ensures.fits (omega arith) c.in-Ok.ensures.text c.in-Ok.ensures.volumes
    (length-rows c.in-Ok.read.0.items ∙ c.in-Ok.ensures.number)
    (nil_from_length c.in-Ok.read.1.now (eqb-true _ _ (sym c.is_empty.ensures ∙ c.if-not-is_empty.false)))

pub invariant_of-result : goal.invariant_of-result
invariant_of-result c = IsTable-wider c.args.extents (2 ^ 32) _ (omega arith) (whole c).table

pub returns-clause-spells : goal.returns-clause-spells
returns-clause-spells c = whole c
