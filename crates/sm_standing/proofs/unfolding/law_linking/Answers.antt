use Rattle.sm_standing.proofs.LinkingLaws.{link_kept, link_permits, link_quiet, link_says, link_shown, link_sound, link_unfolded, link_with, with_one}
use Rattle.sm_standing.proofs.PlainKept.{known_sound, known_but_leaf, but_leaf_known}
use Rattle.sm_standing.specs.Worlds.{with_table}
use Rattle.sm_standing.proofs.unfolding.law_linking.Goals as goal

pub returns-clause-linked : goal.returns-clause-linked
returns-clause-linked c = λ x h. link_says x (but_leaf_known x h)

pub returns-clause-permits : goal.returns-clause-permits
returns-clause-permits c = λ x h table geometry child parent one. link_permits x (but_leaf_known x h) child parent one table geometry

pub returns-clause-tables : goal.returns-clause-tables
returns-clause-tables c = λ x h table geometry child parent one w undoing. (link_with x (but_leaf_known x h) child parent one table geometry w undoing).is_table

pub returns-clause-entry : goal.returns-clause-entry
returns-clause-entry c = λ x h table geometry child parent one w undoing.
    let s = but_leaf_known x h in with_one x s child parent one table geometry w (link_with x s child parent one table geometry w undoing)

pub returns-clause-sound : goal.returns-clause-sound
returns-clause-sound c = λ x h table geometry holding child parent one w area undoing same.
    let s = but_leaf_known x h in
    let k = link_sound x s child parent one table geometry w (link_with x s child parent one table geometry w undoing) area same holding in
    known_but_leaf (with_table x w area) (known_sound (with_table x w area) k) k.only

pub returns-clause-kept : goal.returns-clause-kept
returns-clause-kept c = λ x h table geometry well child parent one w area undoing same.
    let s = but_leaf_known x h in link_kept x s child parent one table geometry w (link_with x s child parent one table geometry w undoing) area same well

pub returns-clause-shown : goal.returns-clause-shown
returns-clause-shown c = λ x h table geometry child parent one w area undoing same.
    let s = but_leaf_known x h in link_shown x s child parent one table geometry w (link_with x s child parent one table geometry w undoing) area same

pub returns-clause-quiet : goal.returns-clause-quiet
returns-clause-quiet c = λ x h table geometry child parent one. link_quiet x (but_leaf_known x h) child parent one table geometry

pub returns-clause-unfolded : goal.returns-clause-unfolded
returns-clause-unfolded c = λ x h table geometry child parent one. link_unfolded x (but_leaf_known x h) child parent one table geometry
