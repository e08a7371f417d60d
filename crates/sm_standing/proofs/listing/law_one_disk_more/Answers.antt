use Rattle.sm_standing.proofs.DiskLists.{disks_more}
use Rattle.sm_standing.proofs.listing.law_one_disk_more.Goals as goal

pub returns : goal.returns
returns c = disks_more
