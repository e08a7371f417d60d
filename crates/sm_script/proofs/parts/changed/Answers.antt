use Rattle.std.proofs.Common.{None, Some, refl, ◌∙◌}
use Rattle.sm_machine.specs.Lines.{uuid_of}
use Rattle.sm_machine.specs.declared.commands.Command.TheVariants.{Changed}
use Rattle.sm_script.proofs.PartLaws.{after_twin-is, after_twin-other}
use Rattle.sm_script.proofs.parts.changed.Goals as goal

pub returns-in_err-from : goal.returns-in_err-from
returns-in_err-from c = c.from_residual.ensures ∙ after_twin-other Changed _ c.in_err-from.ensures.other

pub returns-in_err-from-2 : goal.returns-in_err-from-2
returns-in_err-from-2 c =
    c.from_residual-in_err-from-2.ensures ∙ after_twin-is Changed _ c.in_ok-from.from.now c.in_ok-from.to.now None (uuid_of c.in_ok-from.to.now) c.in_ok-from.ensures.words c.in_err-from-2.ensures refl

pub returns-in_err-to : goal.returns-in_err-to
returns-in_err-to c =
    c.from_residual-in_err-to.ensures ∙ after_twin-is Changed _ c.in_ok-from.from.now c.in_ok-from.to.now (Some c.in_ok-from-2.from) None c.in_ok-from.ensures.words c.in_ok-from-2.ensures c.in_err-to.ensures

pub returns : goal.returns
returns c = after_twin-is Changed _ c.in_ok-from.from.now c.in_ok-from.to.now (Some c.in_ok-from-2.from) (Some c.in_ok-to.to) c.in_ok-from.ensures.words c.in_ok-from-2.ensures c.in_ok-to.ensures
