use Rattle.sm_standing.proofs.ImageLaws.{old_image, new_image}
use Rattle.sm_standing.proofs.images.law_no_image.Goals as goal

pub returns-clause-old : goal.returns-clause-old
returns-clause-old c = old_image

pub returns-clause-fresh : goal.returns-clause-fresh
returns-clause-fresh c = new_image
