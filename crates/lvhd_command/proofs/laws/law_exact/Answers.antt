use Rattle.lvhd_command.proofs.ExactLaws.{sound_or_refused, refused_once, never_refused}
use Rattle.lvhd_command.proofs.laws.law_exact.Goals as goal

pub returns-clause-answers : goal.returns-clause-answers
returns-clause-answers c = sound_or_refused

pub returns-clause-runs : goal.returns-clause-runs
returns-clause-runs c = never_refused

pub returns-clause-once : goal.returns-clause-once
returns-clause-once c = refused_once
