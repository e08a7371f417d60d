use Rattle.std.proofs.Common.{None, Some, ◌∙◌}
use Rattle.sm_machine.specs.declared.commands.Command.TheVariants.{Flush}
use Rattle.sm_script.proofs.PartLaws.{after_disk-is, after_disk-other}
use Rattle.sm_script.proofs.parts.flush.Goals as goal

pub returns-in_err-word : goal.returns-in_err-word
returns-in_err-word c = c.from_residual.ensures ∙ after_disk-other Flush _ c.in_err-word.ensures.other

pub returns-in_err-disk : goal.returns-in_err-disk
returns-in_err-disk c =
    c.from_residual-in_err-disk.ensures ∙ after_disk-is Flush _ c.in_ok-word.word.now None c.in_ok-word.ensures.words c.in_err-disk.ensures

pub returns : goal.returns
returns c = after_disk-is Flush _ c.in_ok-word.word.now (Some c.in_ok-disk.disk) c.in_ok-word.ensures.words c.in_ok-disk.ensures
