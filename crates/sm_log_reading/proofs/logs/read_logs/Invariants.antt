use Rattle.std.proofs.Common.{◌≡◌, ◌≤◌, length, drop, take}
use Rattle.vg_volumes.specs.Stored.{OnlyReads, stored}
use Rattle.sm_log_reading.specs.Reading.{content_of}
use Rattle.vg_meta.specs.Roomy.{table_alone}
use Rattle.sm_log_reading.specs.Right.{AreNumbered, AreReadOf, logs_behind, logs_read}
use Rattle.sm_log_reading.proofs.logs.read_logs.Given as goal

abbrev pub invariant-loop-disk : goal.invariant-loop-disk
invariant-loop-disk g l = record {
  calm : g.S.Store.faults l.store ≡ g.S.Store.faults l.fn.store;
  only : OnlyReads g.S.Store l.fn.store l.store;
  few : length l.logs ≤ l.disk-index;
  read : AreReadOf (table_alone (g.S.Store.table l.fn.store)) (g.S.Store.site l.fn.store).geometry.extent (take l.disk-index l.fn.disks) l.logs;
  numbered : AreNumbered (table_alone (g.S.Store.table l.fn.store)).sequence l.logs;
  so_far : g.S.Store.told → logs_behind (content_of (stored g.S.Store l.fn.store)) l.logs (drop l.disk-index l.fn.disks) ≡ logs_read (content_of (stored g.S.Store l.fn.store)) l.fn.disks;
}
