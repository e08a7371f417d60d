use Rattle.std.proofs.Common.{◌≡◌, false, length}
use Rattle.sm_disk.specs.Held.{Keeps}
use Rattle.vg_meta.specs.Roomy.{table_alone}
use Rattle.vg_volumes.specs.Stored.{stored}
use Rattle.sm_ready.specs.Known.{Known}
use Rattle.sm_ready.specs.Orderly.{IsOrderly}
use Rattle.sm_ready.specs.Sessions.{HasRows}
use Rattle.sm_ready.specs.Cleaned.{HasFewRemovals}
use Rattle.sm_ready.specs.Repairs.{RestsAgain}
use Rattle.sm_recover.specs.Repairs.{IsChecked}
use Rattle.sm_recover.proofs.removals.remove_new.Given as goal
use Rattle.sm_standing.specs.Opened.{cleaned}

-- some new volumes are gone, and memory that was at rest is so
abbrev pub invariant-loop-name : goal.invariant-loop-name
invariant-loop-name g l = record {
  site : g.S.Store.site l.store ≡ g.S.Store.site l.fn.store;
  calm : g.S.Store.faults l.store ≡ g.S.Store.faults l.fn.store;
  usable : g.S.Store.failed l.store ≡ false;
  checked : IsChecked (g.S.Store.site l.fn.store) (table_alone (g.S.Store.table l.store));
  cleaned : cleaned (table_alone (g.S.Store.table l.store)) ≡ cleaned (table_alone (g.S.Store.table l.fn.store));
  few : HasFewRemovals (table_alone (g.S.Store.table l.fn.store)) (table_alone (g.S.Store.table l.store));
  room : HasRows (g.S.Store.table l.fn.store) → HasRows (g.S.Store.table l.store);
  beside : g.S.Store.told → Keeps (g.S.Store.beside l.fn.store) (g.S.Store.beside l.store);
  keeps : g.S.Store.told → Keeps (g.S.Store.area l.fn.store) (g.S.Store.area l.store);
  orderly : (m : Known) → IsOrderly (g.S.Store.site l.fn.store) (table_alone (g.S.Store.table l.fn.store)) m → IsOrderly (g.S.Store.site l.store) (table_alone (g.S.Store.table l.store)) m;
  rest : g.S.Store.told → (m : Known) → RestsAgain (stored g.S.Store l.fn.store) (stored g.S.Store l.store) m m;
}

abbrev pub decreases-loop-name : goal.decreases-loop-name
decreases-loop-name g l = length (table_alone (g.S.Store.table l.store)).volumes
