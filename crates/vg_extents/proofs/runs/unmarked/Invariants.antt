use Rattle.std.proofs.Common.{◌≡◌, ◌≤◌, ◌-◌, length, drop}
use Rattle.std.specs.Slice.Iter.{iter_rest}
use Rattle.vg_extents.specs.Runs.{AreApart, behind_last, segments_of, extents_of}
use Rattle.vg_extents.proofs.CountLaws.{without_mark}
use Rattle.vg_extents.proofs.runs.unmarked.Given as goal

abbrev pub invariant-loop-extent : goal.invariant-loop-extent
invariant-loop-extent l = record {
  apart : AreApart 0 l.extent (segments_of l.runs.items);
  free : extents_of l.runs.items ≡ without_mark (iter_rest l.fn.marks) l.extent;
  count : l.found ≡ length (extents_of l.runs.items);
  few : l.found ≤ l.need;
  taken : iter_rest l.marks ≡ drop l.extent (iter_rest l.fn.marks);
  early : behind_last l.need (iter_rest l.fn.marks) ≡ behind_last (l.need - l.found) (iter_rest l.marks);
}
