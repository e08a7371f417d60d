use Rattle.std.proofs.Common.{◌∙◌}
use Rattle.sm_trial.proofs.trials.step_line.Goals as goal

pub returns-clause-stepped : goal.returns-clause-stepped
returns-clause-stepped g c = λ told ready kept.
    c.step-result.ensures.stepped told ready kept c.args.line.now (c.command.ensures ∙ c.read-reading.ensures)
