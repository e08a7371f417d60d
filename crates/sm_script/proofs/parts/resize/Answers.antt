use Rattle.std.proofs.Common.{None, Some, refl, ◌∙◌}
use Rattle.sm_machine.specs.Lines.{number_of}
use Rattle.sm_script.proofs.PartLaws.{after_resize-is, after_resize-other}
use Rattle.sm_script.proofs.parts.resize.Goals as goal

pub returns-in_err-disk : goal.returns-in_err-disk
returns-in_err-disk c = c.from_residual.ensures ∙ after_resize-other _ c.in_err-disk.ensures.other

pub returns-in_err-disk-2 : goal.returns-in_err-disk-2
returns-in_err-disk-2 c =
    c.from_residual-in_err-disk-2.ensures ∙ after_resize-is _ c.in_ok-disk.disk.now c.in_ok-disk.size.now None (number_of c.in_ok-disk.size.now) c.in_ok-disk.ensures.words c.in_err-disk-2.ensures refl

pub returns-in_err-size : goal.returns-in_err-size
returns-in_err-size c =
    c.from_residual-in_err-size.ensures ∙ after_resize-is _ c.in_ok-disk.disk.now c.in_ok-disk.size.now (Some c.in_ok-disk-2.disk) None c.in_ok-disk.ensures.words c.in_ok-disk-2.ensures c.in_err-size.ensures

pub returns : goal.returns
returns c = after_resize-is _ c.in_ok-disk.disk.now c.in_ok-disk.size.now (Some c.in_ok-disk-2.disk) (Some c.in_ok-size.size) c.in_ok-disk.ensures.words c.in_ok-disk-2.ensures c.in_ok-size.ensures
