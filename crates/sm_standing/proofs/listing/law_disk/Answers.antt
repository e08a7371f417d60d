use Rattle.sm_standing.proofs.DiskLists.{disk_record, disk_sectors}
use Rattle.sm_standing.proofs.listing.law_disk.Goals as goal

pub returns-clause-record : goal.returns-clause-record
returns-clause-record c = disk_record

pub returns-clause-sectors : goal.returns-clause-sectors
returns-clause-sectors c = disk_sectors
