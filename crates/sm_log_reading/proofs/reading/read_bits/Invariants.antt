use Rattle.std.proofs.Common.{◌≡◌, length}
use Rattle.sm_disk.specs.Held.{reads}
use Rattle.vg_volumes.specs.Stored.{OnlyReads, held_in, stored}
use Rattle.sm_log_reading.proofs.BitLaws.{AreReadTo}
use Rattle.sm_log_reading.proofs.reading.read_bits.Given as goal

abbrev pub invariant-loop-index : goal.invariant-loop-index
invariant-loop-index g l = record {
  calm : g.S.Store.faults l.store ≡ g.S.Store.faults l.fn.store;
  only : OnlyReads g.S.Store l.fn.store l.store;
  long : length l.bits ≡ l.pieces;
  so_far : g.S.Store.told → AreReadTo l.pieces l.index (reads (held_in (stored g.S.Store l.fn.store) l.volume)) l.bits;
}
