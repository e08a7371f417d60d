use Rattle.sm_standing.proofs.ImageLaws.{copied}
use Rattle.sm_standing.proofs.images.law_copied.Goals as goal

pub returns : goal.returns
returns c = copied
