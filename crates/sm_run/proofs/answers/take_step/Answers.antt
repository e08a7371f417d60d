use Rattle.std.proofs.Common.{ap, ◌∙◌}
use Rattle.sm_machine.specs.Lines.{spelled}
use Rattle.sm_run.proofs.LineLaws.{spelled-front}
use Rattle.sm_run.proofs.answers.take_step.Goals as goal

pub returns-clause-stepped : goal.returns-clause-stepped
returns-clause-stepped g c = λ told ready kept faces whole front.
    let bytes = c.deref.ensures.value ∙ c.line.view_is ∙ front in
    c.step-result.ensures.stepped told ready kept faces whole (c.command.ensures ∙ c.read-reading.ensures ∙ ap spelled bytes ∙ spelled-front whole)
