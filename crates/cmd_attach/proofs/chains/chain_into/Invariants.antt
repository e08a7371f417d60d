use Rattle.std.proofs.Common.{◌≡◌, ◌≤◌, ◌-◌, ◌++◌, take, length, map}
use Rattle.sm_machine.specs.Shapes.{chain, chain_limit}
use Rattle.sm_ready.specs.Known.{machine_row}
use Rattle.sm_ready.proofs.ChainNames.{rest}
use Rattle.cmd_attach.proofs.chains.chain_into.Given as goal

-- the names so far, and those from the next on, are the chain
abbrev pub invariant-loop-count : goal.invariant-loop-count
invariant-loop-count l = (length l.to ≡ chain_limit) × (l.count ≤ chain_limit)
    × (take l.count l.to ++ rest (chain_limit - l.count) (map machine_row l.tree.rows) l.next ≡ chain chain_limit l.leaf (map machine_row l.tree.rows))

abbrev pub decreases-loop-count : goal.decreases-loop-count
decreases-loop-count l = chain_limit - l.count
