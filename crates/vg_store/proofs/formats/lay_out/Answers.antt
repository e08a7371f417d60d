use Rattle.std.proofs.Common.{◌≡◌, length, refl, arith}
use Rattle.sm_disk.proofs.ReachesLaws.{Reaches-then}
use Rattle.vg_layout.specs.Fields.{layout_number, plate, pointer}
use Rattle.vg_store.proofs.FormatLaws.{fills, put_label, clear_crash, fill_crash, still_none, label_crash, laid_after, cleared_reads}
use Rattle.vg_store.proofs.formats.lay_out.Goals as goal

pub returns-in_err-put-clause-crash : goal.returns-in_err-put-clause-crash
returns-in_err-put-clause-crash g c = λ told image allowed.
    let h = g.D.Disk.held in
    clear_crash (g.D.Disk.size c.args.disk.now) (h c.args.disk.now) (h c.put.new.disk) (plate c.args.draft.now.label) (pointer c.args.draft.now.header) c.args.draft.now.text _ image (omega (arith, c.requires.room))
    (c.put.ensures.reaches told) allowed refl

pub returns-in_err-fill-clause-crash : goal.returns-in_err-fill-clause-crash
returns-in_err-fill-clause-crash g c = λ told image allowed.
    let h = g.D.Disk.held in
    fill_crash (g.D.Disk.size c.args.disk.now) (layout_number c.args.draft.now.label.layout) (h c.args.disk.now) (h c.put.new.disk) (h c.fill.new.disk) (plate c.args.draft.now.label) (pointer c.args.draft.now.header) c.args.draft.now.text image (omega (arith, c.requires.room))
    (c.in_ok-put.ensures.settled told) (cleared_reads (h c.put.new.disk) _ refl (c.in_ok-put.ensures.within told)) (c.fill.ensures.reaches told) allowed

pub returns-in_err-put-2-clause-crash : goal.returns-in_err-put-2-clause-crash
returns-in_err-put-2-clause-crash g c = λ told image allowed.
    let h = g.D.Disk.held in
    let long : length c.write.new.to ≡ 512 = omega arith in
    let none = still_none (layout_number c.args.draft.now.label.layout) (h c.put.new.disk) (h c.fill.new.disk) (cleared_reads (h c.put.new.disk) _ refl (c.in_ok-put.ensures.within told)) (c.fill.ensures.reaches told) in
    label_crash (g.D.Disk.size c.args.disk.now) (h c.args.disk.now) (h c.fill.new.disk) (h c.put-2.new.disk) (plate c.args.draft.now.label) (pointer c.args.draft.now.header) c.args.draft.now.text c.write.new.to image c.requires.room
    c.args.draft.now.first (c.in_ok-fill.ensures.settled told) none (c.in_ok-fill.ensures.filled told) c.write.ensures long (c.put-2.ensures.reaches told) allowed

pub returns-clause-crash : goal.returns-clause-crash
returns-clause-crash g c = λ told image allowed.
    let h = g.D.Disk.held in
    let long : length c.write.new.to ≡ 512 = omega arith in
    let none = still_none (layout_number c.args.draft.now.label.layout) (h c.put.new.disk) (h c.fill.new.disk) (cleared_reads (h c.put.new.disk) _ refl (c.in_ok-put.ensures.within told)) (c.fill.ensures.reaches told) in
    label_crash (g.D.Disk.size c.args.disk.now) (h c.args.disk.now) (h c.fill.new.disk) (h c.put-2.new.disk) (plate c.args.draft.now.label) (pointer c.args.draft.now.header) c.args.draft.now.text c.write.new.to image c.requires.room
    c.args.draft.now.first (c.in_ok-fill.ensures.settled told) none (c.in_ok-fill.ensures.filled told) c.write.ensures long (c.put-2.ensures.reaches told) allowed

pub returns-clause-laid : goal.returns-clause-laid
returns-clause-laid g c = λ told.
    let h = g.D.Disk.held in
    let long : length c.write.new.to ≡ 512 = omega arith in
    laid_after (g.D.Disk.size c.args.disk.now) (h c.fill.new.disk) (h c.put-2.new.disk) (plate c.args.draft.now.label) (pointer c.args.draft.now.header) c.args.draft.now.text c.write.new.to c.requires.room
    c.args.draft.now.first (c.in_ok-fill.ensures.filled told) c.write.ensures long
    (c.in_ok-put-2.ensures.settled told) (c.in_ok-put-2.ensures.within told) (c.in_ok-put-2.ensures.elsewhere told)

pub returns-in_err-put-clause-reaches : goal.returns-in_err-put-clause-reaches
returns-in_err-put-clause-reaches g c = λ told. put_label (layout_number c.args.draft.now.label.layout) _ _ _ refl (c.put.ensures.reaches told)

pub returns-in_err-fill-clause-reaches : goal.returns-in_err-fill-clause-reaches
returns-in_err-fill-clause-reaches g c = λ told. Reaches-then (put_label (layout_number c.args.draft.now.label.layout) _ _ _ refl (c.put.ensures.reaches told)) (fills (layout_number c.args.draft.now.label.layout) _ _ (c.fill.ensures.reaches told))

pub returns-in_err-put-2-clause-reaches : goal.returns-in_err-put-2-clause-reaches
returns-in_err-put-2-clause-reaches g c = λ told.
    Reaches-then (put_label (layout_number c.args.draft.now.label.layout) _ _ _ refl (c.put.ensures.reaches told)) (Reaches-then (fills (layout_number c.args.draft.now.label.layout) _ _ (c.fill.ensures.reaches told)) (put_label (layout_number c.args.draft.now.label.layout) _ _ _ (omega arith) (c.put-2.ensures.reaches told)))

pub returns-clause-reaches : goal.returns-clause-reaches
returns-clause-reaches g c = λ told.
    Reaches-then (put_label (layout_number c.args.draft.now.label.layout) _ _ _ refl (c.put.ensures.reaches told)) (Reaches-then (fills (layout_number c.args.draft.now.label.layout) _ _ (c.fill.ensures.reaches told)) (put_label (layout_number c.args.draft.now.label.layout) _ _ _ (omega arith) (c.put-2.ensures.reaches told)))
