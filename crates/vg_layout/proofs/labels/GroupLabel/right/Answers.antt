use Rattle.std.proofs.Common.{◌≡◌, ◌∙◌, sym, rules}
use Rattle.vg_layout.specs.Fields.{plate}
use Rattle.vg_layout.proofs.SectorLaws.{wrong_fields, label_right}
use Rattle.vg_layout.proofs.labels.GroupLabel.right.Goals as goal

pub returns-in_err-label-clause-none : goal.returns-in_err-label-clause-none
returns-in_err-label-clause-none c = rw c.from_residual.ensures (wrong_fields c.args.sectors c.args.bytes.now c.requires.version c.in_err-label.ensures.none)

pub returns-then-least-label-clause-right : goal.returns-then-least-label-clause-right
returns-then-least-label-clause-right c =
    let l = c.in_ok-label.label in
    let same : c.args.bytes.now ≡ c.write.new.to = search rules in
    label_right c.args.sectors c.version-version.result c.args.bytes.now (plate l) (sym c.version-version.ensures) c.in_ok-label.ensures.some (same ∙ c.write.ensures)
    (rw (← c.number.ensures) c.if-number-version.true) l.geometry.in_range (rw (← c.extents_on-most.ensures) c.if-label-most.true) (rw (← c.record_extents-least.ensures) c.if-least-label.true)
