use Rattle.sm_standing.proofs.TurnLaws.{no_parent}
use Rattle.sm_standing.proofs.chains.law_no_parent.Goals as goal

pub returns : goal.returns
returns c = no_parent
