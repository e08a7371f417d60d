use Rattle.sm_standing.proofs.TurnLaws.{copy_below}
use Rattle.sm_standing.proofs.chains.law_copy_below.Goals as goal

pub returns : goal.returns
returns c = copy_below
