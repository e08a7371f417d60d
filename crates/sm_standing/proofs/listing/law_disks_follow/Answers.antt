use Rattle.sm_standing.proofs.DiskLists.{disks_same}
use Rattle.sm_standing.proofs.listing.law_disks_follow.Goals as goal

pub returns : goal.returns
returns c = disks_same
