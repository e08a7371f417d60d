use Rattle.vg_meta.proofs.Places.{Sought}
use Rattle.vg_meta.proofs.volumes.place.Given as goal

abbrev pub invariant-loop-at : goal.invariant-loop-at
invariant-loop-at l = Sought l.volumes l.name l.at
