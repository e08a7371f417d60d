use Rattle.examples_standing.proofs.FaultExamples.{disk_none, disk_two, disk_once, disk_first, disk_unrecorded}
use Rattle.examples_standing.proofs.faults.example_disk.Goals as goal

pub returns-clause-none : goal.returns-clause-none
returns-clause-none c = disk_none

pub returns-clause-two : goal.returns-clause-two
returns-clause-two c = disk_two

pub returns-clause-once : goal.returns-clause-once
returns-clause-once c = disk_once

pub returns-clause-first : goal.returns-clause-first
returns-clause-first c = disk_first

pub returns-clause-unrecorded : goal.returns-clause-unrecorded
returns-clause-unrecorded c = disk_unrecorded
