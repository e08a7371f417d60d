use Rattle.std.proofs.Common.{◌≡◌, drop}
use Rattle.vhd_chain.specs.Trees.{children}
use Rattle.vhd_chain.proofs.links.first_child.Given as goal

abbrev pub invariant-loop-row : goal.invariant-loop-row
invariant-loop-row l = children (drop l.row-index l.rows) l.parent ≡ children l.rows l.parent
