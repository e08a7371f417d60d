use Rattle.std.proofs.Common.{◌≡◌}
use Rattle.sm_base.specs.declared.names.Name.TheVariants.{Mgt as mgt_name}
use Rattle.vg_volumes.specs.Stored.{Writes}
use Rattle.sm_mgt.specs.Places.{HasRecordAt, WroteZeros}
use Rattle.sm_mgt.proofs.ClearLaws.{cleared_to, Below}
use Rattle.sm_mgt.proofs.management.Mgt.clear.Given as goal

-- the places below the counter are cleared, in memory and in the store
abbrev pub invariant-loop-place : goal.invariant-loop-place
invariant-loop-place g l = record {
  memory : l.self ≡ cleared_to l.uuid l.place l.fn.self;
  calm : g.S.Store.faults l.store ≡ g.S.Store.faults l.fn.store;
  wrote : Writes g.S.Store mgt_name (WroteZeros (Below (HasRecordAt l.fn.self l.uuid) l.place)) l.fn.store l.store;
}
