use Rattle.std.proofs.Common.{◌≡◌, ◌+◌, ◌≤◌, length, drop}
use Rattle.vhd_chain.specs.Trees.{children}
use Rattle.vhd_chain.proofs.links.count_children.Given as goal

abbrev pub invariant-loop-row : goal.invariant-loop-row
invariant-loop-row l = (l.count + length (children (drop l.row-index l.rows) l.parent) ≡ length (children l.rows l.parent)) × (l.count ≤ l.row-index)
