use Rattle.vg_store.specs.Runs.{AreAdjacent}
use Rattle.vg_store.proofs.volumes.adjacent.Given as goal

abbrev pub invariant-loop-count : goal.invariant-loop-count
invariant-loop-count l = AreAdjacent l.extents l.index l.count
