use Rattle.std.proofs.Common.{◌≡◌, ◌-◌, ◌++◌, map, take, drop}
use Rattle.sm_disk.proofs.failing.lower.Given as goal

abbrev pub invariant-loop-call : goal.invariant-loop-call
invariant-loop-call l = l.named ≡ map (λ n. n - 1) (take l.call-index l.initial.named) ++ drop l.call-index l.initial.named
