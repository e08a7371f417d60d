use Rattle.std.proofs.Common.{◌≡◌, length}
use Rattle.vg_meta.specs.Roomy.{table_alone}
use Rattle.sm_recover.proofs.DropLaws.{HasDropped}
use Rattle.sm_recover.proofs.dropping.drop_logs.Given as goal

-- some are gone
abbrev pub invariant-loop-name : goal.invariant-loop-name
invariant-loop-name g l = record {
  calm : g.S.Store.faults l.store ≡ g.S.Store.faults l.fn.store;
  some : HasDropped g.S.Store l.fn.store l.store;
}

abbrev pub decreases-loop-name : goal.decreases-loop-name
decreases-loop-name g l = length (table_alone (g.S.Store.table l.store)).volumes
