use Rattle.gc_leaf.proofs.SwapSound.{swap_sound}
use Rattle.gc_leaf.proofs.laws.law_swap_sound.Goals as goal

pub returns : goal.returns
returns c = swap_sound
