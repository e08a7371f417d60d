use Rattle.std.proofs.Common.{◌++◌, List, ℕ, take}
use Rattle.vg_meta.specs.Taken.{IsMarked}
use Rattle.sm_tracking.proofs.rooms.mark.Given as goal

abbrev pub invariant-loop-extent : goal.invariant-loop-extent
invariant-loop-extent l = (us : List ℕ) → IsMarked us l.initial.marks → IsMarked (us ++ take l.extent-index l.extents) l.marks
