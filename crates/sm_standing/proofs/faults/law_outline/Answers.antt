use Rattle.std.proofs.Common.{ap}
use Rattle.sm_standing.specs.Checks.{fault_of}
use Rattle.sm_standing.proofs.OutlineLaws.{outline_same}
use Rattle.sm_standing.proofs.faults.law_outline.Goals as goal

pub returns-clause-same : goal.returns-clause-same
returns-clause-same c = outline_same

pub returns-clause-fault : goal.returns-clause-fault
returns-clause-fault c = λ a b s. ap fault_of (outline_same a b s)
