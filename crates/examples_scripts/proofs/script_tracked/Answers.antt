use Rattle.std.proofs.Common.{refl}
use Rattle.examples_scripts.proofs.Opener.{opener}
use Rattle.examples_scripts.proofs.script_tracked.Goals as goal

-- both sides compute to the same
pub returns : goal.returns
unfolding opener
returns c = record { begun = refl; replies = refl; room = refl; written = refl; later = refl; others = refl; deleted = refl; counted = refl; stopped = refl }
