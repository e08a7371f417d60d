use Rattle.std.proofs.Common.{None, Some, refl, ◌∙◌}
use Rattle.sm_machine.specs.Lines.{byte_of, number_of}
use Rattle.sm_script.proofs.PartLaws.{after_fill-is, after_fill-other}
use Rattle.sm_script.proofs.parts.fill.Goals as goal

pub returns-in_err-disk : goal.returns-in_err-disk
returns-in_err-disk c = c.from_residual.ensures ∙ after_fill-other _ c.in_err-disk.ensures.other

pub returns-in_err-disk-2 : goal.returns-in_err-disk-2
returns-in_err-disk-2 c =
    c.from_residual-in_err-disk-2.ensures ∙ after_fill-is _ c.in_ok-disk.disk.now c.in_ok-disk.sector.now c.in_ok-disk.count.now c.in_ok-disk.digits.now None (number_of c.in_ok-disk.sector.now) (number_of c.in_ok-disk.count.now) (byte_of c.in_ok-disk.digits.now) c.in_ok-disk.ensures.words c.in_err-disk-2.ensures refl refl refl

pub returns-in_err-sector : goal.returns-in_err-sector
returns-in_err-sector c =
    c.from_residual-in_err-sector.ensures ∙ after_fill-is _ c.in_ok-disk.disk.now c.in_ok-disk.sector.now c.in_ok-disk.count.now c.in_ok-disk.digits.now (Some c.in_ok-disk-2.disk) None (number_of c.in_ok-disk.count.now) (byte_of c.in_ok-disk.digits.now) c.in_ok-disk.ensures.words c.in_ok-disk-2.ensures c.in_err-sector.ensures refl refl

pub returns-in_err-count : goal.returns-in_err-count
returns-in_err-count c =
    c.from_residual-in_err-count.ensures ∙ after_fill-is _ c.in_ok-disk.disk.now c.in_ok-disk.sector.now c.in_ok-disk.count.now c.in_ok-disk.digits.now (Some c.in_ok-disk-2.disk) (Some c.in_ok-sector.sector) None (byte_of c.in_ok-disk.digits.now) c.in_ok-disk.ensures.words c.in_ok-disk-2.ensures c.in_ok-sector.ensures c.in_err-count.ensures refl

pub returns-in_err-byte : goal.returns-in_err-byte
returns-in_err-byte c =
    c.from_residual-in_err-byte.ensures ∙ after_fill-is _ c.in_ok-disk.disk.now c.in_ok-disk.sector.now c.in_ok-disk.count.now c.in_ok-disk.digits.now (Some c.in_ok-disk-2.disk) (Some c.in_ok-sector.sector) (Some c.in_ok-count.count) None c.in_ok-disk.ensures.words c.in_ok-disk-2.ensures c.in_ok-sector.ensures c.in_ok-count.ensures c.in_err-byte.ensures

pub returns : goal.returns
returns c = after_fill-is _ c.in_ok-disk.disk.now c.in_ok-disk.sector.now c.in_ok-disk.count.now c.in_ok-disk.digits.now (Some c.in_ok-disk-2.disk) (Some c.in_ok-sector.sector) (Some c.in_ok-count.count) (Some c.in_ok-byte.byte) c.in_ok-disk.ensures.words c.in_ok-disk-2.ensures c.in_ok-sector.ensures c.in_ok-count.ensures c.in_ok-byte.ensures
