use Rattle.std.proofs.Common.{ap}
use Rattle.sm_standing.specs.Outlines.{link_of}
use Rattle.examples_standing.proofs.FaultExamples.{link_renamed_alone, link_leaf, link_leaf_orphan, link_renamed, link_swapped}
use Rattle.examples_standing.proofs.faults.example_leaf_link.Goals as goal

pub returns-clause-copied : goal.returns-clause-copied
returns-clause-copied c = λ area i j is up js. link_leaf area _ _ (ap link_of is) up (ap link_of js)

pub returns-clause-orphan : goal.returns-clause-orphan
returns-clause-orphan c = λ area i is. link_leaf_orphan area _ (ap link_of is)

pub returns-clause-renamed : goal.returns-clause-renamed
returns-clause-renamed c = λ area j js. link_renamed area _ (ap link_of js)

pub returns-clause-swapped : goal.returns-clause-swapped
returns-clause-swapped c = λ area j js. link_swapped area _ (ap link_of js)

pub returns-clause-alone : goal.returns-clause-alone
returns-clause-alone c = λ area i is. link_renamed_alone area _ (ap link_of is)
