use Rattle.std.proofs.Common.{ap}
use Rattle.sm_standing.specs.Outlines.{link_of}
use Rattle.examples_standing.proofs.FaultExamples.{link_smaller}
use Rattle.examples_standing.proofs.faults.example_relink_link.Goals as goal

pub returns : goal.returns
returns c = λ area i j is up js. link_smaller area _ _ (ap link_of is) up (ap link_of js)
