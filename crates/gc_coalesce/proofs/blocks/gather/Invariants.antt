use Rattle.std.proofs.Common.{◌≡◌, ◌*◌, ◌-◌, ◌≤◌, length}
use Rattle.vg_volumes.specs.Stored.{OnlyReads, stored}
use Rattle.vhd_chain.specs.Reading.{own_read}
use Rattle.gc_coalesce.specs.Blocks.{AreGathered, AreUnmarkedFrom}
use Rattle.gc_coalesce.proofs.blocks.gather.Given as goal

-- the sectors in front of this one of the block are gathered
abbrev pub invariant-loop-part : goal.invariant-loop-part
invariant-loop-part g l = record {
  reads_only : OnlyReads g.S.Store l.fn.store l.store;
  steady : g.S.Store.faults l.store ≡ g.S.Store.faults l.fn.store;
  long : length l.bytes ≡ length l.fn.bytes;
  within : l.part ≤ l.wide;
  gathered : g.S.Store.told → AreGathered (own_read (stored g.S.Store l.fn.store) l.child) (l.block * (g.S.Store.site l.fn.store).geometry.block) l.marks l.bytes l.part;
  clean : AreUnmarkedFrom l.part l.marks;
}

abbrev pub decreases-loop-part : goal.decreases-loop-part
decreases-loop-part g l = l.wide - l.part
