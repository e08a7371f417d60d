use Rattle.sm_standing.proofs.ImageSectors.{same_images}
use Rattle.sm_standing.proofs.volumes.law_same_apart.Goals as goal

pub returns : goal.returns
returns c = same_images
