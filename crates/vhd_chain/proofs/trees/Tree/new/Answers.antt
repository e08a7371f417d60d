use Rattle.std.proofs.Common.{sym, subst}
use Rattle.vhd_chain.specs.Trees.{AreOrdered}
use Rattle.vhd_chain.proofs.OrderLaws.{ordered_first}
use Rattle.vhd_chain.proofs.trees.Tree.new.Goals as goal

pub invariant_of-result : goal.invariant_of-result
invariant_of-result c = subst AreOrdered (sym c.new.ensures.items) ordered_first
