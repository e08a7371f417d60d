use Rattle.std.proofs.Common.{◌≡◌, ℕ, ◌*◌, ◌<◌, ◌≤◌}
use Rattle.sm_disk.specs.Held.{IsIn, SameHeld, reads}
use Rattle.vhd_map.specs.Slots.{slot_of}
use Rattle.vg_volumes.specs.Stored.{stored, held_in, WorksOn}
use Rattle.vhd_volumes.specs.Truth.{layout_now}
use Rattle.vhd_write.specs.Passes.{IsFull}
use Rattle.vhd_write.proofs.finish.is_complete.Given as goal

-- the blocks below the counter are full
abbrev pub invariant-loop-block : goal.invariant-loop-block
invariant-loop-block g l = record {
  calm : g.S.Store.faults l.store ≡ g.S.Store.faults l.fn.store;
  works : WorksOn g.S.Store l.head.volume l.fn.store l.store;
  same : g.S.Store.told → SameHeld (held_in (stored g.S.Store l.fn.store) l.head.volume) (held_in (stored g.S.Store l.store) l.head.volume);
  full : (b : ℕ) → l.span.first ≤ b → b < l.block
      → IsFull g.S.Store.told (layout_now (stored g.S.Store l.fn.store) l.head) (IsIn l.span.sector (512 * l.span.count)) (slot_of l.map) b
      (reads (held_in (stored g.S.Store l.fn.store) l.head.volume));
}
