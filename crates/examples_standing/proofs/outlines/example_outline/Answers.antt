use Rattle.std.proofs.Common.{ap}
use Rattle.sm_standing.specs.Checks.{fault_of}
use Rattle.examples_standing.proofs.OutlineExample.{written_outline}
use Rattle.examples_standing.proofs.outlines.example_outline.Goals as goal

pub returns-clause-same : goal.returns-clause-same
returns-clause-same c = written_outline

pub returns-clause-fault : goal.returns-clause-fault
returns-clause-fault c = λ a b same. ap fault_of (written_outline a b same)
