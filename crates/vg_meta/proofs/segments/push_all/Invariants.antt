use Rattle.std.proofs.Common.{◌≡◌, ◌-◌, ◌++◌}
use Rattle.std.specs.List.{range_with_len}
use Rattle.vg_meta.proofs.segments.push_all.Given as goal

abbrev pub invariant-loop-extent : goal.invariant-loop-extent
invariant-loop-extent l = l.extents.items ≡ l.initial.extents.items ++ range_with_len l.fn.segment.first (l.extent - l.fn.segment.first)
