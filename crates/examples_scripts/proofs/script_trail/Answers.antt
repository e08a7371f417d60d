use Rattle.std.proofs.Common.{refl}
use Rattle.examples_scripts.proofs.Opener.{opener}
use Rattle.examples_scripts.proofs.script_trail.Goals as goal

-- both sides compute to the same
pub returns : goal.returns
unfolding opener
returns c = record { none = refl; lists = refl; settled = refl; refused = refl }
