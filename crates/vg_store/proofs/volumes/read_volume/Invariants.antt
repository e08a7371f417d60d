use Rattle.std.proofs.Common.{◌-◌}
use Rattle.vg_layout.specs.Fields.{layout_number}
use Rattle.vg_store.proofs.PartLaws.{ReadGoes}
use Rattle.vg_store.proofs.volumes.read_volume.Given as goal

abbrev pub invariant-loop-done : goal.invariant-loop-done
invariant-loop-done g l =
    ReadGoes g.D.Disk.told (layout_number l.layout) l.extent l.extents l.at l.to (g.D.Disk.size l.initial.disk) (g.D.Disk.size l.disk)
    (g.D.Disk.faults l.initial.disk) (g.D.Disk.faults l.disk) l.done l.count (g.D.Disk.held l.initial.disk) (g.D.Disk.held l.disk)

abbrev pub decreases-loop-done : goal.decreases-loop-done
decreases-loop-done g l = l.count - l.done
