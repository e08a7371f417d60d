use Rattle.std.proofs.Common.{◌≡◌, ℕ, ◌*◌, ◌<◌, ◌≤◌}
use Rattle.sm_disk.specs.Held.{IsIn, Reaches, reads}
use Rattle.vhd_map.specs.Slots.{slot_of}
use Rattle.vg_volumes.specs.Stored.{stored, held_in, WorksOn}
use Rattle.vhd_volumes.specs.Truth.{layout_now}
use Rattle.vhd_write.specs.Passes.{PutsBitsAll, AreSet}
use Rattle.vhd_write.proofs.finish.set_bitmaps.Given as goal

-- the bits of the blocks below the counter are set
abbrev pub invariant-loop-block : goal.invariant-loop-block
invariant-loop-block g l = record {
  calm : g.S.Store.faults l.store ≡ g.S.Store.faults l.fn.store;
  works : WorksOn g.S.Store l.head.volume l.fn.store l.store;
  reaches : g.S.Store.told
      → Reaches (PutsBitsAll (layout_now (stored g.S.Store l.fn.store) l.head) (IsIn l.span.sector (512 * l.span.count)) (slot_of l.map)
      (reads (held_in (stored g.S.Store l.fn.store) l.head.volume)))
      (held_in (stored g.S.Store l.fn.store) l.head.volume)
      (held_in (stored g.S.Store l.store) l.head.volume);
  done : g.S.Store.told → (b : ℕ) → l.span.first ≤ b → b < l.block
      → AreSet (layout_now (stored g.S.Store l.fn.store) l.head) (IsIn l.span.sector (512 * l.span.count)) (slot_of l.map b) b
      (reads (held_in (stored g.S.Store l.store) l.head.volume));
}
