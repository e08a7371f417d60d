use Rattle.std.proofs.Common.{◌≡◌, ◌≤◌, ◌-◌, ◌*◌, length}
use Rattle.vg_volumes.specs.Stored.{stored, OnlyReads}
use Rattle.vhd_chain.specs.Reading.{chain_reads, AreRead}
use Rattle.vhd_chain.proofs.trees.Tree.read.Given as goal

abbrev pub invariant-loop-done : goal.invariant-loop-done
invariant-loop-done g l =
    OnlyReads g.S.Store l.initial.store l.store × (g.S.Store.faults l.store ≡ g.S.Store.faults l.initial.store) × (512 * l.done ≤ length l.to)
    × (g.S.Store.told → AreRead (chain_reads (stored g.S.Store l.initial.store) l.rows l.leaf) l.sector 0 l.done l.to)

abbrev pub decreases-loop-done : goal.decreases-loop-done
decreases-loop-done g l = l.count - l.done
