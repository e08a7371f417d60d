use Rattle.std.proofs.Common.{◌≡◌}
use Rattle.sm_base.specs.declared.names.Name.TheVariants.{Mgt as mgt_name}
use Rattle.vg_meta.specs.Roomy.{table_alone}
use Rattle.vg_volumes.specs.Stored.{Writes}
use Rattle.sm_mgt.specs.Places.{Agrees, records_of}
use Rattle.sm_ready.specs.Repairs.{IsStrayAt, IsWithoutStrays, IsZeroedAt}
use Rattle.sm_ready.proofs.WipeLaws.{AreRightBelow}
use Rattle.sm_recover.proofs.wiping.wipe_strays.Given as goal

-- the places below the counter have no stray record
abbrev pub invariant-loop-place : goal.invariant-loop-place
invariant-loop-place g l = record {
  calm : g.S.Store.faults l.store ≡ g.S.Store.faults l.fn.store;
  wrote : Writes g.S.Store mgt_name (IsZeroedAt (IsStrayAt (table_alone (g.S.Store.table l.fn.store)) l.fn.mgt)) l.fn.store l.store;
  agrees : g.S.Store.told → Agrees (records_of g.S.Store l.fn.store) l.fn.mgt → Agrees (records_of g.S.Store l.store) l.mgt;
  freed : IsWithoutStrays (table_alone (g.S.Store.table l.fn.store)) l.fn.mgt l.mgt;
  right : AreRightBelow (table_alone (g.S.Store.table l.fn.store)) l.mgt l.place;
}
