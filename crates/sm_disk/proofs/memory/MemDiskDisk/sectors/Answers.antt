use Rattle.sm_disk.proofs.SlotLaws.{HasSectors-held_by}
use Rattle.sm_disk.proofs.memory.MemDiskDisk.sectors.Goals as goal

pub returns-clause-sectors : goal.returns-clause-sectors
returns-clause-sectors c = λ told. rw (← c.self.view_is) (HasSectors-held_by _ _ c.len-places.ensures.sectors)
