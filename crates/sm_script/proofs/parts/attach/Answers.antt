use Rattle.std.proofs.Common.{None, Some, refl, ◌∙◌}
use Rattle.sm_machine.specs.Lines.{mode_of}
use Rattle.sm_script.proofs.PartLaws.{after_attach-is, after_attach-other}
use Rattle.sm_script.proofs.parts.attach.Goals as goal

pub returns-in_err-disk : goal.returns-in_err-disk
returns-in_err-disk c = c.from_residual.ensures ∙ after_attach-other _ c.in_err-disk.ensures.other

pub returns-in_err-disk-2 : goal.returns-in_err-disk-2
returns-in_err-disk-2 c =
    c.from_residual-in_err-disk-2.ensures ∙ after_attach-is _ c.in_ok-disk.disk.now c.in_ok-disk.mode.now None (mode_of c.in_ok-disk.mode.now) c.in_ok-disk.ensures.words c.in_err-disk-2.ensures refl

pub returns-in_err-mode : goal.returns-in_err-mode
returns-in_err-mode c =
    c.from_residual-in_err-mode.ensures ∙ after_attach-is _ c.in_ok-disk.disk.now c.in_ok-disk.mode.now (Some c.in_ok-disk-2.disk) None c.in_ok-disk.ensures.words c.in_ok-disk-2.ensures c.in_err-mode.ensures

pub returns : goal.returns
returns c = after_attach-is _ c.in_ok-disk.disk.now c.in_ok-disk.mode.now (Some c.in_ok-disk-2.disk) (Some c.in_ok-mode.mode) c.in_ok-disk.ensures.words c.in_ok-disk-2.ensures c.in_ok-mode.ensures
