use Rattle.std.proofs.Common.{◌≡◌, ◌+◌, ◌≤◌, length, take}
use Rattle.vg_meta.specs.Roomy.{rows_alone}
use Rattle.vg_volumes.specs.Stored.{OnlyReads}
use Rattle.sm_checks.specs.Loaded.{AreRowsOf, HasEachRow, stored_read}
use Rattle.sm_checks.proofs.TurnLaws.{read_rows}
use Rattle.sm_checks.proofs.loading.load.Given as goal

-- nothing was written; the rows of the volumes so far, and room for the others
abbrev pub invariant-loop-index : goal.invariant-loop-index
invariant-loop-index g l = record {
  calm : g.S.Store.faults l.store ≡ g.S.Store.faults l.fn.store;
  only : OnlyReads g.S.Store l.fn.store l.store;
  rows : AreRowsOf (rows_alone (take l.index (read_rows (g.S.Store.table l.fn.store)))) l.tree.rows;
  each : HasEachRow g.S.Store.told (stored_read g.S.Store l.fn.store) (rows_alone (take l.index (read_rows (g.S.Store.table l.fn.store)))) l.tree.rows;
  room : 500 ≤ length l.tree.rows + l.tree.spare;
}
