use Rattle.std.proofs.Common.{refl, sym, subst}
use Rattle.sm_base.specs.declared.operations.Op.TheVariants.{Idle}
use Rattle.sm_operation.specs.Kept.{AreCounted, block_limit}
use Rattle.sm_operation.proofs.CountLaws.{counted_clear}
use Rattle.sm_operation.proofs.operations.Operation.new.Goals as goal

pub invariant_of-result : goal.invariant_of-result
unfolding block_limit
invariant_of-result c = subst (AreCounted Idle _) (sym c.in-Ok.ensures.items) (counted_clear Idle _ c.in-Ok.ensures.capacity refl)
