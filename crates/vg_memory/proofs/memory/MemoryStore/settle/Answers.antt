use Rattle.vg_memory.proofs.SectorWrites.{still_quiet}
use Rattle.vg_memory.proofs.StoreLaws.{kept_area}
use Rattle.vg_memory.proofs.memory.MemoryStore.settle.Goals as goal

pub invariant_of-self : goal.invariant_of-self
invariant_of-self c = kept_area c.self.invariant c.sync.ensures.size (still_quiet c.self.invariant.quiet c.sync.ensures.passed)
