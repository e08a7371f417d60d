use Rattle.std.proofs.Common.{vec_capacity, sym, ap, subst, arith}
use Rattle.sm_operation.specs.Kept.{AreCounted, flagged}
use Rattle.sm_operation.proofs.CountLaws.{counted_clear}
use Rattle.sm_operation.proofs.operations.Operation.set.Goals as goal

pub invariant_of-self : goal.invariant_of-self
invariant_of-self c = subst (AreCounted c.fresh-self-inside.result (vec_capacity c.clear.new.self)) (sym c.clear.ensures.items)
    (counted_clear c.fresh-self-inside.result (vec_capacity c.clear.new.self) (let h = c.self.invariant.room in let k = c.clear.ensures.capacity in omega (arith, h, k)) c.fresh-self-inside.ensures.none)

pub returns : goal.returns
unfolding flagged
returns c = c.fresh-self-inside.ensures.same _ (ap (flagged 0) c.clear.ensures.items)
