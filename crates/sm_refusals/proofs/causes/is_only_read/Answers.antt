use Rattle.std.proofs.Common.{Some, sym, ap, ◌∙◌}
use Rattle.sm_machine.specs.Shapes.{is_ro}
use Rattle.sm_ready.specs.Known.{known}
use Rattle.sm_ready.proofs.LookLaws.{mode_found}
use Rattle.sm_refusals.proofs.causes.is_only_read.Goals as goal

pub returns-in-Some-Ro : goal.returns-in-Some-Ro
returns-in-Some-Ro c = λ s t o tidy. sym (ap is_ro (mode_found s t (known c.args.memory.now) c.args.disk.now ∙ sym c.mode.ensures ∙ c.in-Some-Ro.is ∙ ap Some c.in-Some-Ro.field-0-is))

pub returns-in-Some-Rw : goal.returns-in-Some-Rw
returns-in-Some-Rw c = λ s t o tidy. sym (ap is_ro (mode_found s t (known c.args.memory.now) c.args.disk.now ∙ sym c.mode.ensures ∙ c.in-Some-Rw.is ∙ ap Some c.in-Some-Rw.field-0-is))

pub returns-in-None : goal.returns-in-None
returns-in-None c = λ s t o tidy. sym (ap is_ro (mode_found s t (known c.args.memory.now) c.args.disk.now ∙ sym c.mode.ensures ∙ c.in-None.is))
