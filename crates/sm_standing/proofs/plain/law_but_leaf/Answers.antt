use Rattle.sm_standing.proofs.PlainKept.{known_kept, known_but_leaf, simple_is_plain, simple_well, but_leaf_known, but_leaf_sound}
use Rattle.sm_standing.proofs.plain.law_but_leaf.Goals as goal

pub returns-clause-known : goal.returns-clause-known
returns-clause-known c = λ b h. (but_leaf_known b h).only

pub returns-clause-facts : goal.returns-clause-facts
returns-clause-facts c = but_leaf_sound

pub returns-clause-kept : goal.returns-clause-kept
returns-clause-kept c = λ b h. known_kept b (but_leaf_known b h)

pub returns-clause-plain : goal.returns-clause-plain
returns-clause-plain c = λ b h none quiet. simple_is_plain b (but_leaf_sound b h quiet) none

pub returns-clause-back : goal.returns-clause-back
returns-clause-back c = known_but_leaf

pub returns-clause-well : goal.returns-clause-well
returns-clause-well c = simple_well
