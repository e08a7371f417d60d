use Rattle.std.proofs.Common.{◌≡◌, ◌-◌, ◌≤◌}
use Rattle.common_laws.specs.Lists.{numbers}
use Rattle.sm_machine.specs.Steps.{written_op}
use Rattle.cmd_guest.proofs.marking.mark.Given as goal

-- the blocks before this one are marked
pub record IsMarked (l : goal.Live-loop-block) : Type 0 where
  pub marked : l.operation ≡ written_op l.fn.disk (numbers l.fn.first (l.block - l.fn.first)) l.fn.operation
  pub up : l.fn.first ≤ l.block

abbrev pub invariant-loop-block : goal.invariant-loop-block
invariant-loop-block l = IsMarked l
