use Rattle.std.proofs.Common.{◌-◌}
use Rattle.vg_memory.proofs.SectorWrites.{WriteGoes}
use Rattle.vg_memory.proofs.sectors.write_sectors.Given as goal

abbrev pub invariant-loop-done : goal.invariant-loop-done
invariant-loop-done l = WriteGoes l.extent l.extents l.at l.from l.done l.count l.initial.area l.area

abbrev pub decreases-loop-done : goal.decreases-loop-done
decreases-loop-done l = l.count - l.done
