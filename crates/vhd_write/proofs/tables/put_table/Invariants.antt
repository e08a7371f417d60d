use Rattle.std.proofs.Common.{◌≡◌, ℕ, ◌+◌, ◌*◌, ◌/◌, ◌<◌, ◌≤◌}
use Rattle.sm_disk.specs.Held.{IsIn, Reaches, reads}
use Rattle.vhd_map.specs.Slots.{slot_of}
use Rattle.vg_volumes.specs.Stored.{stored, held_in, WorksOn}
use Rattle.vhd_volumes.specs.Truth.{layout_now}
use Rattle.vhd_write.specs.Passes.{PutsTable, IsTableSector}
use Rattle.vhd_write.proofs.tables.put_table.Given as goal

-- the sectors below the counter stand in the table
abbrev pub invariant-loop-index : goal.invariant-loop-index
invariant-loop-index g l = record {
  calm : g.S.Store.faults l.store ≡ g.S.Store.faults l.fn.store;
  works : WorksOn g.S.Store l.head.volume l.fn.store l.store;
  reaches : g.S.Store.told
      → Reaches (PutsTable (layout_now (stored g.S.Store l.fn.store) l.head) (IsIn l.span.sector (512 * l.span.count)) (slot_of l.map))
      (held_in (stored g.S.Store l.fn.store) l.head.volume)
      (held_in (stored g.S.Store l.store) l.head.volume);
  done : g.S.Store.told → (index : ℕ) → l.span.first / 128 ≤ index → index < l.index
      → IsTableSector (layout_now (stored g.S.Store l.fn.store) l.head) (slot_of l.map) index
      (reads (held_in (stored g.S.Store l.store) l.head.volume) (3 + index));
}
