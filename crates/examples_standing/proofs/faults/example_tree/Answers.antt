use Rattle.std.proofs.Common.{ap}
use Rattle.sm_standing.specs.Outlines.{link_of}
use Rattle.examples_standing.proofs.FaultExamples.{tree_right, tree_gone, tree_larger, tree_visible, tree_endless}
use Rattle.examples_standing.proofs.faults.example_tree.Goals as goal

pub returns-clause-parent_gone : goal.returns-clause-parent_gone
returns-clause-parent_gone c = λ area i is. tree_gone area _ (ap link_of is)

pub returns-clause-parent_larger : goal.returns-clause-parent_larger
returns-clause-parent_larger c = λ area i j is up js. tree_larger area _ _ (ap link_of is) up (ap link_of js)

pub returns-clause-visible_parent : goal.returns-clause-visible_parent
returns-clause-visible_parent c = λ area j i is js. tree_visible area _ _ (ap link_of is) (ap link_of js)

pub returns-clause-endless : goal.returns-clause-endless
returns-clause-endless c = λ area i j is up js. tree_endless area _ _ (ap link_of is) up (ap link_of js)

pub returns-clause-right : goal.returns-clause-right
returns-clause-right c = λ area i j is up js. tree_right area _ _ (ap link_of is) up (ap link_of js)
