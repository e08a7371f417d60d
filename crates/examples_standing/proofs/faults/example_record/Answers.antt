use Rattle.examples_standing.proofs.FaultExamples.{record_first, record_none, record_all}
use Rattle.examples_standing.proofs.faults.example_record.Goals as goal

pub returns-clause-first : goal.returns-clause-first
returns-clause-first c = record_first

pub returns-clause-none : goal.returns-clause-none
returns-clause-none c = record_none

pub returns-clause-all : goal.returns-clause-all
returns-clause-all c = record_all
