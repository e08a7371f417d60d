use Rattle.std.proofs.Common.{◌≡◌, ◌-◌, ◌++◌}
use Rattle.std.specs.List.{range_with_len}
use Rattle.tests_reader.proofs.volumes.push_run.Given as goal

abbrev pub invariant-loop-extent : goal.invariant-loop-extent
invariant-loop-extent l = l.extents.items ≡ l.initial.extents.items ++ range_with_len l.first (l.extent - l.first)
