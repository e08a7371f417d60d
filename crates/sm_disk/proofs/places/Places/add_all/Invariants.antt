use Rattle.sm_disk.specs.Memory.{held_by}
use Rattle.sm_disk.proofs.FrontLaws.{WroteFront}
use Rattle.sm_disk.proofs.places.Places.add_all.Given as goal

abbrev pub invariant-loop-i : goal.invariant-loop-i
invariant-loop-i l = WroteFront l.at l.from l.i (held_by l.initial.self) (held_by l.self)
