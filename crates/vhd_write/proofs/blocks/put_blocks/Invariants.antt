use Rattle.std.proofs.Common.{◌≡◌, ◌-◌, length}
use Rattle.sm_disk.specs.Held.{IsIn, Puts, Reaches, reads}
use Rattle.vhd_map.specs.Slots.{slot_of}
use Rattle.vg_volumes.specs.Stored.{stored, held_in, WorksOn}
use Rattle.vhd_volumes.specs.Truth.{layout_now}
use Rattle.vhd_volumes.specs.Writes.{with_blocks}
use Rattle.vhd_write.specs.Passes.{PutsData, ArePut}
use Rattle.vhd_write.specs.Spans.{Given}
use Rattle.vhd_write.specs.WritePlaces.{KeepsToPlaces}
use Rattle.vhd_write.proofs.blocks.put_blocks.Given as goal

-- the blocks below the counter are put
abbrev pub invariant-loop-block : goal.invariant-loop-block
invariant-loop-block g l = record {
  calm : g.S.Store.faults l.store ≡ g.S.Store.faults l.fn.store;
  works : WorksOn g.S.Store l.head.volume l.fn.store l.store;
  given : Given l.span.first l.block l.fn.map l.map;
  reaches : g.S.Store.told
      → Reaches (PutsData (layout_now (stored g.S.Store l.fn.store) l.head) (Puts l.span.sector l.from) (slot_of l.fn.map))
      (held_in (stored g.S.Store l.fn.store) l.head.volume)
      (held_in (stored g.S.Store l.store) l.head.volume);
  places : g.S.Store.told
      → KeepsToPlaces (layout_now (stored g.S.Store l.fn.store) l.head) (Puts l.span.sector l.from) (IsIn l.span.sector (length l.from)) (slot_of l.fn.map)
      (slot_of (with_blocks l.span.first (l.span.end - l.span.first) l.fn.map))
      (held_in (stored g.S.Store l.fn.store) l.head.volume)
      (held_in (stored g.S.Store l.store) l.head.volume);
  done : g.S.Store.told
      → ArePut (layout_now (stored g.S.Store l.fn.store) l.head) (Puts l.span.sector l.from) (IsIn l.span.sector (length l.from)) (slot_of l.fn.map) (slot_of l.map) l.block
      (reads (held_in (stored g.S.Store l.store) l.head.volume));
}
