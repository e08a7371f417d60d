use Rattle.vg_meta.proofs.PutLaws.{Passed}
use Rattle.vg_meta.proofs.edits.slot.Given as goal

abbrev pub invariant-loop-at : goal.invariant-loop-at
invariant-loop-at l = Passed l.volumes l.name l.at
