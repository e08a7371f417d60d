use Rattle.sm_standing.proofs.DiskChanges.{disks_changed}
use Rattle.sm_standing.proofs.listing.law_one_disk_changed.Goals as goal

pub returns : goal.returns
returns c = disks_changed
