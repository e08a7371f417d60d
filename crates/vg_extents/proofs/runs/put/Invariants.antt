use Rattle.std.proofs.Common.{◌≡◌, ◌-◌, ◌++◌}
use Rattle.std.specs.List.{range_with_len}
use Rattle.vg_extents.proofs.runs.put.Given as goal

abbrev pub invariant-loop-extent : goal.invariant-loop-extent
invariant-loop-extent l = l.found.items ≡ l.fn.found.items ++ range_with_len l.fn.run.first (l.extent - l.fn.run.first)
