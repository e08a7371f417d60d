use Rattle.sm_standing.proofs.TurnLaws.{guest_write}
use Rattle.sm_standing.proofs.chains.law_guest_write.Goals as goal

pub returns : goal.returns
returns c = guest_write
