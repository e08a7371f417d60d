use Rattle.tests_reader.proofs.TextLaws.{IsMet}
use Rattle.tests_reader.proofs.texts.are_new.Given as goal

abbrev pub invariant-loop-extent : goal.invariant-loop-extent
invariant-loop-extent l = IsMet l.count l.initial.met.items l.extents l.met.items l.extent-index
