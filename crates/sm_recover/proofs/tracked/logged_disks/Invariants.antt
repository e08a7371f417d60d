use Rattle.std.proofs.Common.{◌≡◌, take}
use Rattle.std.specs.List.{filter_map}
use Rattle.vg_meta.specs.Roomy.{RoomyRow, table_alone}
use Rattle.sm_recover.specs.Tracked.{disk_logged}
use Rattle.sm_recover.proofs.tracked.logged_disks.Given as goal

-- the disks of so many volumes are there
abbrev pub invariant-loop-volume : goal.invariant-loop-volume
invariant-loop-volume l = record {
  made : l.disks.items ≡ filter_map (λ (h : RoomyRow). disk_logged (table_alone l.table) l.tree.rows h.row) (take l.volume-index l.table.rows);
}
