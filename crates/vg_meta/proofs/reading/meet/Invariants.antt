use Rattle.std.proofs.Common.{ℕ, List, length}
use Rattle.vg_meta.specs.Taken.{IsMarked}
use Rattle.vg_meta.proofs.TakenLaws.{Met}
use Rattle.vg_meta.proofs.reading.meet.Given as goal

abbrev pub invariant-loop-extent : goal.invariant-loop-extent
invariant-loop-extent l = (us : List ℕ) → IsMarked us l.initial.met → Met (length l.initial.met) us l.extents l.met l.extent-index
