use Rattle.std.proofs.Common.{◌≡◌, ◌≤◌, ◌+◌, drop}
use Rattle.vg_meta.specs.Segments.{beginnings}
use Rattle.vg_meta.proofs.segments.count_beginnings.Given as goal

abbrev pub invariant-loop-extent : goal.invariant-loop-extent
invariant-loop-extent l = record {
  few : l.count ≤ l.extent-index;
  counted : l.count + beginnings l.last (drop l.extent-index l.extents) ≡ beginnings l.fn.last l.extents;
}
