use Rattle.std.proofs.Common.{ap}
use Rattle.sm_standing.specs.Outlines.{link_of}
use Rattle.examples_standing.proofs.FaultExamples.{link_copied, link_orphan, link_other}
use Rattle.examples_standing.proofs.faults.example_entry_link.Goals as goal

pub returns-clause-orphan : goal.returns-clause-orphan
returns-clause-orphan c = λ area i is. link_orphan area _ (ap link_of is)

pub returns-clause-other_child : goal.returns-clause-other_child
returns-clause-other_child c = λ area i j is up js. link_other area _ _ (ap link_of is) up (ap link_of js)

pub returns-clause-right : goal.returns-clause-right
returns-clause-right c = λ area i j is up js. link_copied area _ _ (ap link_of is) up (ap link_of js)
