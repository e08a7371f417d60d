use Rattle.sm_disk.specs.Sectors.{zeros}
use Rattle.sm_disk.proofs.slots.Slot.new.Goals as goal

pub returns : goal.returns
unfolding zeros
returns c = rw (c.in_ok-add.ensures.added, c.new.ensures.items)
