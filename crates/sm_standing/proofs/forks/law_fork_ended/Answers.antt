use Rattle.sm_standing.proofs.ForkLaws.{fork_ended}
use Rattle.sm_standing.proofs.forks.law_fork_ended.Goals as goal

pub returns : goal.returns
returns c = fork_ended
