use Rattle.std.proofs.Common.{None, Some, refl, ◌∙◌}
use Rattle.sm_machine.specs.Lines.{number_of}
use Rattle.sm_script.proofs.PartLaws.{after_read-is, after_read-other}
use Rattle.sm_script.proofs.parts.read.Goals as goal

pub returns-in_err-disk : goal.returns-in_err-disk
returns-in_err-disk c = c.from_residual.ensures ∙ after_read-other _ c.in_err-disk.ensures.other

pub returns-in_err-disk-2 : goal.returns-in_err-disk-2
returns-in_err-disk-2 c =
    c.from_residual-in_err-disk-2.ensures ∙ after_read-is _ c.in_ok-disk.disk.now c.in_ok-disk.sector.now c.in_ok-disk.count.now None (number_of c.in_ok-disk.sector.now) (number_of c.in_ok-disk.count.now) c.in_ok-disk.ensures.words c.in_err-disk-2.ensures refl refl

pub returns-in_err-sector : goal.returns-in_err-sector
returns-in_err-sector c =
    c.from_residual-in_err-sector.ensures ∙ after_read-is _ c.in_ok-disk.disk.now c.in_ok-disk.sector.now c.in_ok-disk.count.now (Some c.in_ok-disk-2.disk) None (number_of c.in_ok-disk.count.now) c.in_ok-disk.ensures.words c.in_ok-disk-2.ensures c.in_err-sector.ensures refl

pub returns-in_err-count : goal.returns-in_err-count
returns-in_err-count c =
    c.from_residual-in_err-count.ensures ∙ after_read-is _ c.in_ok-disk.disk.now c.in_ok-disk.sector.now c.in_ok-disk.count.now (Some c.in_ok-disk-2.disk) (Some c.in_ok-sector.sector) None c.in_ok-disk.ensures.words c.in_ok-disk-2.ensures c.in_ok-sector.ensures c.in_err-count.ensures

pub returns : goal.returns
returns c = after_read-is _ c.in_ok-disk.disk.now c.in_ok-disk.sector.now c.in_ok-disk.count.now (Some c.in_ok-disk-2.disk) (Some c.in_ok-sector.sector) (Some c.in_ok-count.count) c.in_ok-disk.ensures.words c.in_ok-disk-2.ensures c.in_ok-sector.ensures c.in_ok-count.ensures
