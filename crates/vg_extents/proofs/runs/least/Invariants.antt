use Rattle.std.proofs.Common.{◌≡◌, take}
use Rattle.vg_extents.specs.Runs.{extents_of}
use Rattle.vg_extents.proofs.runs.least.Given as goal

abbrev pub invariant-loop-run : goal.invariant-loop-run
invariant-loop-run l = l.found.items ≡ take l.need (extents_of (take l.run-index l.runs))
