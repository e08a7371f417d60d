use Rattle.std.proofs.Common.{length}
use Rattle.vhd_chain.specs.Trees.{children}
use Rattle.sm_recover.specs.Linking.{LinksSome}
use Rattle.sm_recover.proofs.linking.link_children.Given as goal

-- some of the children are linked
abbrev pub invariant-loop-name : goal.invariant-loop-name
invariant-loop-name g l = LinksSome g.S.Store l.fn.store l.fn.memory l.store l.memory

abbrev pub decreases-loop-name : goal.decreases-loop-name
decreases-loop-name g l = length (children l.memory.tree.rows l.child)
