use Rattle.std.proofs.Common.{◌≡◌, ◌+◌, ◌-◌}
use Rattle.vhd_chain.specs.Trees.{chain_length}
use Rattle.vhd_chain.proofs.LinkLaws.{most_counted}
use Rattle.vhd_chain.proofs.links.chain.Given as goal

abbrev pub invariant-loop-below : goal.invariant-loop-below
invariant-loop-below l = chain_length l.rows most_counted l.name ≡ l.below + chain_length l.rows (most_counted - l.below) l.next
