use Rattle.std.proofs.Common.{◌≡◌, length, take}
use Rattle.vg_extents.specs.Runs.{extents_of}
use Rattle.vg_extents.proofs.runs.count_of.Given as goal

abbrev pub invariant-loop-run : goal.invariant-loop-run
invariant-loop-run l = l.count ≡ length (extents_of (take l.run-index l.runs))
