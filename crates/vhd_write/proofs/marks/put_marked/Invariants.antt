use Rattle.std.proofs.Common.{◌≡◌, ◌*◌, ◌/◌, ◌-◌, ◌≤◌, length}
use Rattle.sm_disk.specs.Held.{Reaches, reads}
use Rattle.vg_volumes.specs.Stored.{stored, held_in, WorksOn}
use Rattle.vhd_write.specs.Marks.{HasMarked, PutsMarked}
use Rattle.vhd_write.proofs.marks.put_marked.Given as goal

-- the marked sectors in front are put
abbrev pub invariant-loop-done : goal.invariant-loop-done
invariant-loop-done g l = record {
  most : 512 * l.done ≤ length l.bytes;
  calm : g.S.Store.faults l.store ≡ g.S.Store.faults l.fn.store;
  works : WorksOn g.S.Store l.volume l.fn.store l.store;
  reaches : g.S.Store.told
      → Reaches (PutsMarked (length l.bytes / 512) l.at l.marks l.bytes)
      (held_in (stored g.S.Store l.fn.store) l.volume)
      (held_in (stored g.S.Store l.store) l.volume);
  done : g.S.Store.told → HasMarked l.at l.marks l.bytes 0 l.done (reads (held_in (stored g.S.Store l.store) l.volume));
}

abbrev pub decreases-loop-done : goal.decreases-loop-done
decreases-loop-done g l = length l.bytes - l.done
