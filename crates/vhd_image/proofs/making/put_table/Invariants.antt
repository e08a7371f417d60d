use Rattle.std.proofs.Common.{◌≡◌, ◌*◌}
use Rattle.sm_disk.specs.Held.{reads}
use Rattle.vg_volumes.specs.Stored.{stored, held_in, WorksOn}
use Rattle.vhd_volumes.specs.Writes.{KeepsBut}
use Rattle.vhd_image.specs.Made.{HasEntriesTo, IsInTable}
use Rattle.vhd_image.proofs.making.put_table.Given as goal

-- the entries so far are the map's, and the sectors beside the table are kept
abbrev pub invariant-loop-index : goal.invariant-loop-index
invariant-loop-index g l = record {
  calm : g.S.Store.faults l.store ≡ g.S.Store.faults l.fn.store;
  works : WorksOn g.S.Store l.volume l.fn.store l.store;
  table : g.S.Store.told → HasEntriesTo (128 * l.index) l.geometry l.map (reads (held_in (stored g.S.Store l.store) l.volume));
  others : g.S.Store.told → KeepsBut (IsInTable l.geometry) (held_in (stored g.S.Store l.fn.store) l.volume) (held_in (stored g.S.Store l.store) l.volume);
}
