use Rattle.sm_standing.proofs.DiskChanges.{disks_less}
use Rattle.sm_standing.proofs.listing.law_one_disk_less.Goals as goal

pub returns : goal.returns
returns c = disks_less
