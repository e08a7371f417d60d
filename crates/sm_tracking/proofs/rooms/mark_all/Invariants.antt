use Rattle.std.proofs.Common.{◌++◌, List, ℕ, take}
use Rattle.vg_meta.specs.Tables.{extents_in}
use Rattle.vg_meta.specs.Roomy.{rows_alone}
use Rattle.vg_meta.specs.Taken.{IsMarked}
use Rattle.sm_tracking.proofs.rooms.mark_all.Given as goal

abbrev pub invariant-loop-volume : goal.invariant-loop-volume
invariant-loop-volume l = (us : List ℕ) → IsMarked us l.initial.marks → IsMarked (us ++ extents_in (rows_alone (take l.volume-index l.volumes))) l.marks
