use Rattle.sm_standing.proofs.ImageLaws.{removed_disks}
use Rattle.sm_standing.proofs.images.law_removed.Goals as goal

pub returns : goal.returns
returns c = removed_disks
