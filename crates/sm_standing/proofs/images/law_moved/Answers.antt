use Rattle.sm_standing.proofs.ImageLaws.{moved}
use Rattle.sm_standing.proofs.images.law_moved.Goals as goal

pub returns : goal.returns
returns c = moved
