use Rattle.std.proofs.Common.{sym, ap, ◌∙◌}
use Rattle.std.specs.Prelude.{is_some}
use Rattle.sm_ready.specs.Known.{known}
use Rattle.sm_ready.proofs.LookLaws.{mode_found}
use Rattle.sm_refusals.proofs.causes.is_attached.Goals as goal

pub returns : goal.returns
returns c = λ s t o tidy. c.is_some.ensures ∙ ap is_some (c.mode.ensures ∙ sym (mode_found s t (known c.args.memory.now) c.args.disk.now))
