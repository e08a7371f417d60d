use Rattle.sm_standing.proofs.TurnLaws.{relinked}
use Rattle.sm_standing.proofs.chains.law_relink.Goals as goal

pub returns : goal.returns
returns c = relinked
