use Rattle.examples_standing.proofs.FaultExamples.{crowd_many, crowd_most}
use Rattle.examples_standing.proofs.faults.example_too_many.Goals as goal

pub returns-clause-many : goal.returns-clause-many
returns-clause-many c = crowd_many

pub returns-clause-most : goal.returns-clause-most
returns-clause-most c = crowd_most
