use Rattle.std.proofs.Common.{◌-◌}
use Rattle.vg_memory.proofs.SectorWrites.{ReadGoes}
use Rattle.vg_memory.proofs.sectors.read_sectors.Given as goal

abbrev pub invariant-loop-done : goal.invariant-loop-done
invariant-loop-done l = ReadGoes l.extent l.extents l.at l.to l.done l.count l.initial.area l.area

abbrev pub decreases-loop-done : goal.decreases-loop-done
decreases-loop-done l = l.count - l.done
