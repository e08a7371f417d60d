use Rattle.std.proofs.Common.{refl}
use Rattle.examples_scripts.proofs.Opener.{opener}
use Rattle.examples_scripts.proofs.script_live.Goals as goal

-- both sides compute to the same texts
pub returns : goal.returns
unfolding opener
returns c = record { replies = refl }
