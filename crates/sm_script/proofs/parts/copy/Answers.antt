use Rattle.std.proofs.Common.{None, Some, refl, ◌∙◌}
use Rattle.sm_machine.specs.Lines.{uuid_of}
use Rattle.sm_machine.specs.declared.commands.Command.TheVariants.{Clone}
use Rattle.sm_script.proofs.PartLaws.{after_twin-is, after_twin-other}
use Rattle.sm_script.proofs.parts.copy.Goals as goal

pub returns-in_err-disk : goal.returns-in_err-disk
returns-in_err-disk c = c.from_residual.ensures ∙ after_twin-other Clone _ c.in_err-disk.ensures.other

pub returns-in_err-disk-2 : goal.returns-in_err-disk-2
returns-in_err-disk-2 c =
    c.from_residual-in_err-disk-2.ensures ∙ after_twin-is Clone _ c.in_ok-disk.disk.now c.in_ok-disk.twin.now None (uuid_of c.in_ok-disk.twin.now) c.in_ok-disk.ensures.words c.in_err-disk-2.ensures refl

pub returns-in_err-twin : goal.returns-in_err-twin
returns-in_err-twin c =
    c.from_residual-in_err-twin.ensures ∙ after_twin-is Clone _ c.in_ok-disk.disk.now c.in_ok-disk.twin.now (Some c.in_ok-disk-2.disk) None c.in_ok-disk.ensures.words c.in_ok-disk-2.ensures c.in_err-twin.ensures

pub returns : goal.returns
returns c = after_twin-is Clone _ c.in_ok-disk.disk.now c.in_ok-disk.twin.now (Some c.in_ok-disk-2.disk) (Some c.in_ok-twin.twin) c.in_ok-disk.ensures.words c.in_ok-disk-2.ensures c.in_ok-twin.ensures
