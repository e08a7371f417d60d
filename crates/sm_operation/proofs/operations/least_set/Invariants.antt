use Rattle.std.proofs.Common.{◌≡◌, ◌+◌, drop}
use Rattle.sm_operation.specs.Kept.{flagged}
use Rattle.sm_operation.proofs.operations.least_set.Given as goal

-- no flag before the place is set
abbrev pub invariant-loop-place : goal.invariant-loop-place
invariant-loop-place l = flagged 0 l.fn.flags ≡ flagged (0 + l.place) (drop l.place l.fn.flags)
