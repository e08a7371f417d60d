use Rattle.cmd_list.proofs.ListLaws.{AreListed}
use Rattle.cmd_list.proofs.listing.rows_in.Given as goal

-- the rows of the places from this one on
abbrev pub invariant-loop-place : goal.invariant-loop-place
invariant-loop-place l = AreListed l.memory.tree.rows l.memory.records l.place l.rows.items
