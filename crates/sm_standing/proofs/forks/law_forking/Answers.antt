use Rattle.sm_standing.proofs.ForkLaws.{forking}
use Rattle.sm_standing.proofs.forks.law_forking.Goals as goal

pub returns : goal.returns
returns c = forking
