use Rattle.std.proofs.Common.{None, Some, refl, ◌∙◌}
use Rattle.sm_machine.specs.Lines.{is_on_of}
use Rattle.sm_script.proofs.PartLaws.{after_cbt-is, after_cbt-other}
use Rattle.sm_script.proofs.parts.track.Goals as goal

pub returns-in_err-disk : goal.returns-in_err-disk
returns-in_err-disk c = c.from_residual.ensures ∙ after_cbt-other _ c.in_err-disk.ensures.other

pub returns-in_err-disk-2 : goal.returns-in_err-disk-2
returns-in_err-disk-2 c =
    c.from_residual-in_err-disk-2.ensures ∙ after_cbt-is _ c.in_ok-disk.disk.now c.in_ok-disk.word.now None (is_on_of c.in_ok-disk.word.now) c.in_ok-disk.ensures.words c.in_err-disk-2.ensures refl

pub returns-in_err-on : goal.returns-in_err-on
returns-in_err-on c =
    c.from_residual-in_err-on.ensures ∙ after_cbt-is _ c.in_ok-disk.disk.now c.in_ok-disk.word.now (Some c.in_ok-disk-2.disk) None c.in_ok-disk.ensures.words c.in_ok-disk-2.ensures c.in_err-on.ensures

pub returns : goal.returns
returns c = after_cbt-is _ c.in_ok-disk.disk.now c.in_ok-disk.word.now (Some c.in_ok-disk-2.disk) (Some c.in_ok-on.on) c.in_ok-disk.ensures.words c.in_ok-disk-2.ensures c.in_ok-on.ensures
