use Rattle.std.proofs.Common.{ap}
use Rattle.sm_standing.specs.Outlines.{link_of}
use Rattle.examples_standing.proofs.FaultExamples.{link_fork_alone, link_elsewhere, link_fork_other}
use Rattle.examples_standing.proofs.faults.example_fork_link.Goals as goal

pub returns-clause-elsewhere : goal.returns-clause-elsewhere
returns-clause-elsewhere c = λ area i is. link_elsewhere area _ (ap link_of is)

pub returns-clause-other_child : goal.returns-clause-other_child
returns-clause-other_child c = λ area j js. link_fork_other area _ (ap link_of js)

pub returns-clause-alone : goal.returns-clause-alone
returns-clause-alone c = λ area i is. link_fork_alone area _ (ap link_of is)
