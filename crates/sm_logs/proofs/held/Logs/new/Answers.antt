use Rattle.std.proofs.Common.{sym, subst}
use Rattle.sm_logs.specs.Held.{IsRising}
use Rattle.sm_logs.proofs.OrderLaws.{rising_first}
use Rattle.sm_logs.proofs.held.Logs.new.Goals as goal

pub invariant_of-result : goal.invariant_of-result
invariant_of-result c = record { rising = subst IsRising (sym c.in-Ok.ensures.items) rising_first; room = c.in-Ok.ensures.capacity }
