use Rattle.sm_disk.proofs.HeldLaws.{IsWhole-wider}
use Rattle.sm_disk.proofs.memory.MemDiskDisk.read.Goals as goal

pub copy-requires : goal.copy-requires
copy-requires c = IsWhole-wider c.requires (rw (← c.self.view_is) c.self.invariant)
