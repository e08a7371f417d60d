use Rattle.std.proofs.Common.{◌≡◌, ◌+◌, ◌++◌, take, List, ℕ, sym, ap, ◌∙◌, subst, append_assoc}
use Rattle.std.proofs.lemmas.List.{take_all}
use Rattle.vg_meta.specs.Tables.{extents_in}
use Rattle.vg_meta.specs.Roomy.{RoomyRow, rows_alone}
use Rattle.vg_meta.specs.Taken.{IsMarked}
use Rattle.vg_extents.proofs.CountLaws.{rows-taken}
use Rattle.sm_tracking.proofs.rooms.mark_all.Goals as goal

pub loop-volume-preserved : goal.loop-volume-preserved
loop-volume-preserved c = λ us m.
    let vs = c.args.volumes.now in
    let i = c.loop-volume.volume-index in
    let v = c.volume-item.result in
    let so_far = us ++ extents_in (rows_alone (take i vs)) in
    let joined : so_far ++ v.row.extents ≡ us ++ extents_in (rows_alone (take (i + 1) vs)) =
    append_assoc us (extents_in (rows_alone (take i vs))) v.row.extents ∙ ap (λ (l : List ℕ). us ++ l) (sym (rows-taken vs i v c.loop-volume-test.true c.volume-item.is)) in
    let marked : IsMarked (so_far ++ c.extents.result.now) c.mark.new.marks = c.mark.ensures so_far (c.loop-volume.invariant us m) in
    subst (λ (l : List ℕ). IsMarked l c.mark.new.marks) (ap (λ (l : List ℕ). so_far ++ l) c.extents.ensures.extents ∙ joined) marked

pub returns : goal.returns
returns c = λ us m.
    subst (λ (l : List RoomyRow). IsMarked (us ++ extents_in (rows_alone l)) c.loop-volume.marks) (take_all c.loop-volume.volume-index c.args.volumes.now c.loop-volume-test.false)
    (c.loop-volume.invariant us m)
