use Rattle.sm_log.proofs.ByteLaws.{kept-new, seen-new}
use Rattle.sm_log.proofs.bits.Bits.new.Goals as goal

pub invariant_of-result : goal.invariant_of-result
invariant_of-result c = rw (c.in-Ok.ensures.items_if_clones_equal (λ y same. same)) (kept-new c.args.pieces)

pub returns : goal.returns
returns c = rw (c.in-Ok.ensures.items_if_clones_equal (λ y same. same)) (seen-new c.args.pieces _)
