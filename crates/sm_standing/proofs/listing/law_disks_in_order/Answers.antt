use Rattle.sm_standing.proofs.DiskLists.{rising-disks}
use Rattle.sm_standing.proofs.listing.law_disks_in_order.Goals as goal

pub returns : goal.returns
returns c = rising-disks
