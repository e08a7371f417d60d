use Rattle.std.proofs.Common.{◌≡◌, ◌*◌}
use Rattle.vg_volumes.specs.Stored.{Writes}
use Rattle.cmd_create.specs.Stages.{HasZeros}
use Rattle.cmd_create.proofs.making.fill.Given as goal

-- the extents below the counter read as zeros
abbrev pub invariant-loop-index : goal.invariant-loop-index
invariant-loop-index g l = record {
  wrote : Writes g.S.Store l.name (HasZeros (l.index * (g.S.Store.site l.fn.store).geometry.extent)) l.fn.store l.store;
  steady : g.S.Store.faults l.store ≡ g.S.Store.faults l.fn.store;
}
