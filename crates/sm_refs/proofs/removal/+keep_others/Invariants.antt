-- One entry fewer is looked at.
use Rattle.sm_refs.proofs.removal.+keep_others.Given as goal

abbrev pub decreases-keep_others : goal.decreases-keep_others
decreases-keep_others g l = l.count
