use Rattle.std.proofs.Common.{None, Some, refl, ◌∙◌}
use Rattle.sm_machine.specs.Lines.{is_raw_of, label_of, number_of}
use Rattle.sm_script.proofs.PartLaws.{after_create-is, after_create-other}
use Rattle.sm_script.proofs.parts.create.Goals as goal

pub returns-in_err-disk : goal.returns-in_err-disk
returns-in_err-disk c = c.from_residual.ensures ∙ after_create-other _ c.in_err-disk.ensures.other

pub returns-in_err-disk-2 : goal.returns-in_err-disk-2
returns-in_err-disk-2 c =
    c.from_residual-in_err-disk-2.ensures ∙ after_create-is _ c.in_ok-disk.disk.now c.in_ok-disk.size.now c.in_ok-disk.kind.now c.in_ok-disk.text.now None (number_of c.in_ok-disk.size.now) (is_raw_of c.in_ok-disk.kind.now) (label_of c.in_ok-disk.text.now) c.in_ok-disk.ensures.words c.in_err-disk-2.ensures refl refl refl

pub returns-in_err-size : goal.returns-in_err-size
returns-in_err-size c =
    c.from_residual-in_err-size.ensures ∙ after_create-is _ c.in_ok-disk.disk.now c.in_ok-disk.size.now c.in_ok-disk.kind.now c.in_ok-disk.text.now (Some c.in_ok-disk-2.disk) None (is_raw_of c.in_ok-disk.kind.now) (label_of c.in_ok-disk.text.now) c.in_ok-disk.ensures.words c.in_ok-disk-2.ensures c.in_err-size.ensures refl refl

pub returns-in_err-raw : goal.returns-in_err-raw
returns-in_err-raw c =
    c.from_residual-in_err-raw.ensures ∙ after_create-is _ c.in_ok-disk.disk.now c.in_ok-disk.size.now c.in_ok-disk.kind.now c.in_ok-disk.text.now (Some c.in_ok-disk-2.disk) (Some c.in_ok-size.size) None (label_of c.in_ok-disk.text.now) c.in_ok-disk.ensures.words c.in_ok-disk-2.ensures c.in_ok-size.ensures c.in_err-raw.ensures refl

pub returns-in_err-label : goal.returns-in_err-label
unfolding label_of
returns-in_err-label c =
    c.from_residual-in_err-label.ensures ∙ after_create-is _ c.in_ok-disk.disk.now c.in_ok-disk.size.now c.in_ok-disk.kind.now c.in_ok-disk.text.now (Some c.in_ok-disk-2.disk) (Some c.in_ok-size.size) (Some c.in_ok-raw.raw) None c.in_ok-disk.ensures.words c.in_ok-disk-2.ensures c.in_ok-size.ensures c.in_ok-raw.ensures c.in_err-label.ensures

pub returns : goal.returns
unfolding label_of
returns c = after_create-is _ c.in_ok-disk.disk.now c.in_ok-disk.size.now c.in_ok-disk.kind.now c.in_ok-disk.text.now (Some c.in_ok-disk-2.disk) (Some c.in_ok-size.size) (Some c.in_ok-raw.raw) (Some c.in_ok-label.label) c.in_ok-disk.ensures.words c.in_ok-disk-2.ensures c.in_ok-size.ensures c.in_ok-raw.ensures c.in_ok-label.ensures
