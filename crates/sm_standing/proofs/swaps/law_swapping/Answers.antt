use Rattle.sm_standing.proofs.SwapLaws.{swapping}
use Rattle.sm_standing.proofs.swaps.law_swapping.Goals as goal

pub returns : goal.returns
returns c = swapping
