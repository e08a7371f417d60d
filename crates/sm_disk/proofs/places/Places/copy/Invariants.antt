use Rattle.sm_disk.specs.Memory.{held_by}
use Rattle.sm_disk.proofs.FrontLaws.{GaveFront}
use Rattle.sm_disk.proofs.places.Places.copy.Given as goal

abbrev pub invariant-loop-i : goal.invariant-loop-i
invariant-loop-i l = GaveFront l.at (held_by l.self) l.to l.i
