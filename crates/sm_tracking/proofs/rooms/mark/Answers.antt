use Rattle.std.proofs.Common.{◌++◌, get_or, take, set, true, List, ℕ, sym, subst}
use Rattle.std.proofs.lemmas.List.{take_all}
use Rattle.vg_meta.specs.Taken.{IsMarked}
use Rattle.vg_meta.proofs.TakenLaws.{taken, marked_push, marked_past}
use Rattle.sm_tracking.proofs.rooms.mark.Goals as goal

pub loop-extent-preserved-then-at-marks : goal.loop-extent-preserved-then-at-marks
loop-extent-preserved-then-at-marks c = λ us m.
    let es = c.args.extents.now in
    let i = c.loop-extent.extent-index in
    subst (λ (l : List ℕ). IsMarked l c.loop-extent.marks) (sym (taken us es i c.loop-extent-test.true))
    (marked_past (us ++ take i es) c.loop-extent.marks (get_or es i 0) c.if-at-marks.true (c.loop-extent.invariant us m))

pub loop-extent-preserved : goal.loop-extent-preserved
loop-extent-preserved c = λ us m.
    let es = c.args.extents.now in
    let i = c.loop-extent.extent-index in
    subst (λ (l : List ℕ). IsMarked l (set c.loop-extent.marks (get_or es i 0) true)) (sym (taken us es i c.loop-extent-test.true))
    (marked_push (us ++ take i es) c.loop-extent.marks (get_or es i 0) c.if-at-marks.false (c.loop-extent.invariant us m))

pub returns : goal.returns
returns c = λ us m.
    subst (λ (l : List ℕ). IsMarked (us ++ l) c.loop-extent.marks) (take_all c.loop-extent.extent-index c.args.extents.now c.loop-extent-test.false) (c.loop-extent.invariant us m)
