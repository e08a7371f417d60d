use Rattle.cmd_change.proofs.labels.relabelled.Goals as goal

pub returns-clause-proper : goal.returns-clause-proper
returns-clause-proper c = record { uuid = c.requires.proper.uuid; origin = c.requires.proper.origin; label = c.text-text.ensures.label }
