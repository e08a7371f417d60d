use Rattle.std.proofs.Common.{◌≡◌, length}
use Rattle.sm_operation.specs.Kept.{dirty_in}
use Rattle.gc_live.specs.Cleaning.{IsCleaned}
use Rattle.gc_live.proofs.swapping.clean.Given as goal

-- some of the dirty blocks were copied
abbrev pub invariant-loop-block : goal.invariant-loop-block
invariant-loop-block g l = IsCleaned g.S.Store l.fn.store l.fn.memory l.store l.memory × (l.pool ≡ l.fn.pool)

abbrev pub decreases-loop-block : goal.decreases-loop-block
decreases-loop-block g l = length (dirty_in l.memory.operation)
