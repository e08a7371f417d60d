use Rattle.std.proofs.Common.{◌≡◌, ◌≤◌, length}
use Rattle.gc_plan.proofs.CountLaws.{AreCountedTo}
use Rattle.gc_plan.proofs.counting.ChildCounts.count.Given as goal

-- the children among the rows so far are counted
abbrev pub invariant-loop-row : goal.invariant-loop-row
invariant-loop-row l = record {
  long : length l.self-inside.counts.items ≡ length l.initial.self-inside.counts.items;
  room : length l.rows ≤ length l.self-inside.counts.items;
  counted : AreCountedTo l.rows l.row-index l.self-inside.counts.items;
}
