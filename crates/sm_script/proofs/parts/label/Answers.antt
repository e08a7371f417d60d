use Rattle.std.proofs.Common.{None, Some, refl, ◌∙◌}
use Rattle.sm_machine.specs.Lines.{label_of}
use Rattle.sm_script.proofs.PartLaws.{after_label-is, after_label-other}
use Rattle.sm_script.proofs.parts.label.Goals as goal

pub returns-in_err-disk : goal.returns-in_err-disk
returns-in_err-disk c = c.from_residual.ensures ∙ after_label-other _ c.in_err-disk.ensures.other

pub returns-in_err-disk-2 : goal.returns-in_err-disk-2
returns-in_err-disk-2 c =
    c.from_residual-in_err-disk-2.ensures ∙ after_label-is _ c.in_ok-disk.disk.now c.in_ok-disk.text.now None (label_of c.in_ok-disk.text.now) c.in_ok-disk.ensures.words c.in_err-disk-2.ensures refl

pub returns-in_err-text : goal.returns-in_err-text
unfolding label_of
returns-in_err-text c =
    c.from_residual-in_err-text.ensures ∙ after_label-is _ c.in_ok-disk.disk.now c.in_ok-disk.text.now (Some c.in_ok-disk-2.disk) None c.in_ok-disk.ensures.words c.in_ok-disk-2.ensures c.in_err-text.ensures

pub returns : goal.returns
unfolding label_of
returns c = after_label-is _ c.in_ok-disk.disk.now c.in_ok-disk.text.now (Some c.in_ok-disk-2.disk) (Some c.in_ok-text.text) c.in_ok-disk.ensures.words c.in_ok-disk-2.ensures c.in_ok-text.ensures
