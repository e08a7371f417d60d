use Rattle.std.proofs.Common.{◌≡◌, refl, sym, ap, ◌∙◌, arith}
use Rattle.sm_base.specs.declared.sizes.Geometry.{Geometry}
use Rattle.sm_disk.specs.Held.{reads}
use Rattle.sm_disk.proofs.HeldLaws.{reads-same}
use Rattle.vhd_map.specs.Slots.{slot_of}
use Rattle.vg_volumes.specs.Stored.{stored, held_in}
use Rattle.vg_volumes.proofs.StoredLaws.{works_then, size_stays}
use Rattle.vhd_volumes.specs.Truth.{layout_now}
use Rattle.vhd_write.specs.Marks.{IsMarkedIn}
use Rattle.vhd_write.proofs.BitLaws.{place-low, sector-whole, bitmap-reaches, bitmap-done, bitmap-wrote}
use Rattle.vhd_write.proofs.MarkLaws.{marks-all, marks-more, marks-touch}
use Rattle.vhd_write.proofs.PartLaws.{place_is, slot-in}
use Rattle.vhd_write.proofs.marked.set_marks.Goals as goal

pub get-requires : goal.get-requires
get-requires g c =
    let l = layout_now (stored g.S.Store c.args.store.now) c.args.head.now in
    let slot = c.in-Some.slot in
    let has = sym c.in-Some.ensures.slot in
    let is = place_is c.place_of-at.result _ (g.S.Store.site c.args.store.now).geometry slot slot 0 c.place_of-at.ensures c.geometry-geometry.ensures refl in
    let wide : c.geometry-geometry.result.block ≡ l.block = ap (λ (x : Geometry). x.block) c.geometry-geometry.ensures in
    let M = IsMarkedIn l.block c.args.block c.args.marks.now in
    place-low l slot c.place_of-at.result _ (slot-in l c.args.map.now c.args.block slot has c.requires.room) is refl

pub returns-then-has_marks-clause-done : goal.returns-then-has_marks-clause-done
returns-then-has_marks-clause-done g c = λ told.
    let l = layout_now (stored g.S.Store c.args.store.now) c.args.head.now in
    let slot = c.in-Some.slot in
    let has = sym c.in-Some.ensures.slot in
    let is = place_is c.place_of-at.result _ (g.S.Store.site c.args.store.now).geometry slot slot 0 c.place_of-at.ensures c.geometry-geometry.ensures refl in
    let wide : c.geometry-geometry.result.block ≡ l.block = ap (λ (x : Geometry). x.block) c.geometry-geometry.ensures in
    let M = IsMarkedIn l.block c.args.block c.args.marks.now in
    let read : reads (held_in (stored g.S.Store c.get.new.store) c.args.head.now.volume) c.place_of-at.result ≡ c.in_ok-bitmap.bitmap = reads-same (c.get.ensures.same told) c.place_of-at.result ∙ sym (c.in_ok-bitmap.ensures.gave told) in
    bitmap-done l M c.args.block slot c.place_of-at.result (slot_of c.args.map.now c.args.block) (reads (held_in (stored g.S.Store c.get.new.store) c.args.head.now.volume)) c.in_ok-bitmap.bitmap has is read
    (marks-all l c.args.block c.args.marks.now c.in_ok-bitmap.bitmap (rw (sym wide) c.if-has_marks.ensures))

pub put-requires : goal.put-requires
put-requires g c =
    let l = layout_now (stored g.S.Store c.args.store.now) c.args.head.now in
    let slot = c.in-Some.slot in
    let has = sym c.in-Some.ensures.slot in
    let is = place_is c.place_of-at.result _ (g.S.Store.site c.args.store.now).geometry slot slot 0 c.place_of-at.ensures c.geometry-geometry.ensures refl in
    let wide : c.geometry-geometry.result.block ≡ l.block = ap (λ (x : Geometry). x.block) c.geometry-geometry.ensures in
    let M = IsMarkedIn l.block c.args.block c.args.marks.now in
    let low = place-low l slot c.place_of-at.result _ (slot-in l c.args.map.now c.args.block slot has c.requires.room) is refl in
    sector-whole c.place_of-at.result _ _ (omega (arith, low, size_stays c.args.head.now.volume c.get.ensures.works.stays)) c.add_marks.array_long

pub returns-in_err-put-clause-works : goal.returns-in_err-put-clause-works
returns-in_err-put-clause-works g c = works_then c.get.ensures.works c.put.ensures.works

pub returns-clause-works : goal.returns-clause-works
returns-clause-works g c = works_then c.get.ensures.works c.put.ensures.works

pub returns-in_err-put-clause-reaches : goal.returns-in_err-put-clause-reaches
returns-in_err-put-clause-reaches g c = λ told.
    let l = layout_now (stored g.S.Store c.args.store.now) c.args.head.now in
    let slot = c.in-Some.slot in
    let has = sym c.in-Some.ensures.slot in
    let is = place_is c.place_of-at.result _ (g.S.Store.site c.args.store.now).geometry slot slot 0 c.place_of-at.ensures c.geometry-geometry.ensures refl in
    let wide : c.geometry-geometry.result.block ≡ l.block = ap (λ (x : Geometry). x.block) c.geometry-geometry.ensures in
    let M = IsMarkedIn l.block c.args.block c.args.marks.now in
    bitmap-reaches l M c.args.block slot c.place_of-at.result (slot_of c.args.map.now c.args.block) c.in_ok-bitmap.bitmap c.add_marks.new.bitmap (marks-touch l c.args.block c.args.marks.now c.requires.some) has is c.add_marks.array_long (c.in_ok-bitmap.ensures.gave told)
    (marks-more l c.args.block c.args.marks.now c.in_ok-bitmap.bitmap c.add_marks.new.bitmap (rw (sym wide) c.add_marks.ensures.others)) (c.get.ensures.same told) (c.put.ensures.torn told)

pub returns-clause-reaches : goal.returns-clause-reaches
returns-clause-reaches g c = λ told.
    let l = layout_now (stored g.S.Store c.args.store.now) c.args.head.now in
    let slot = c.in-Some.slot in
    let has = sym c.in-Some.ensures.slot in
    let is = place_is c.place_of-at.result _ (g.S.Store.site c.args.store.now).geometry slot slot 0 c.place_of-at.ensures c.geometry-geometry.ensures refl in
    let wide : c.geometry-geometry.result.block ≡ l.block = ap (λ (x : Geometry). x.block) c.geometry-geometry.ensures in
    let M = IsMarkedIn l.block c.args.block c.args.marks.now in
    bitmap-reaches l M c.args.block slot c.place_of-at.result (slot_of c.args.map.now c.args.block) c.in_ok-bitmap.bitmap c.add_marks.new.bitmap (marks-touch l c.args.block c.args.marks.now c.requires.some) has is c.add_marks.array_long (c.in_ok-bitmap.ensures.gave told)
    (marks-more l c.args.block c.args.marks.now c.in_ok-bitmap.bitmap c.add_marks.new.bitmap (rw (sym wide) c.add_marks.ensures.others)) (c.get.ensures.same told) (c.put.ensures.torn told)

pub returns-clause-done : goal.returns-clause-done
returns-clause-done g c = λ told.
    let l = layout_now (stored g.S.Store c.args.store.now) c.args.head.now in
    let slot = c.in-Some.slot in
    let has = sym c.in-Some.ensures.slot in
    let is = place_is c.place_of-at.result _ (g.S.Store.site c.args.store.now).geometry slot slot 0 c.place_of-at.ensures c.geometry-geometry.ensures refl in
    let wide : c.geometry-geometry.result.block ≡ l.block = ap (λ (x : Geometry). x.block) c.geometry-geometry.ensures in
    let M = IsMarkedIn l.block c.args.block c.args.marks.now in
    bitmap-done l M c.args.block slot c.place_of-at.result (slot_of c.args.map.now c.args.block) (reads (held_in (stored g.S.Store c.put.new.store) c.args.head.now.volume)) c.add_marks.new.bitmap has is
    (bitmap-wrote c.place_of-at.result c.add_marks.new.bitmap c.add_marks.array_long (c.in_ok-put.ensures.wrote told))
    (marks-all l c.args.block c.args.marks.now c.add_marks.new.bitmap (rw (sym wide) c.add_marks.ensures.set))
