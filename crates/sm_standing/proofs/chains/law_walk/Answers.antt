use Rattle.sm_standing.proofs.TurnLaws.{walked}
use Rattle.sm_standing.proofs.chains.law_walk.Goals as goal

pub returns : goal.returns
returns c = walked
