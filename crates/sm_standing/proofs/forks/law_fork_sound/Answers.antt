use Rattle.sm_standing.proofs.ForkSound.{fork_sound}
use Rattle.sm_standing.proofs.forks.law_fork_sound.Goals as goal

pub returns : goal.returns
returns c = fork_sound
