use Rattle.std.proofs.Common.{◌≡◌, None, Some, ap, refl, sym, ◌∙◌, rules, arith}
use Rattle.std.proofs.lemmas.Option.{none-some}
use Rattle.sm_base.specs.declared.sizes.Geometry.{Geometry}
use Rattle.sm_disk.specs.Held.{reads}
use Rattle.sm_disk.proofs.ReachesLaws.{Reaches-none}
use Rattle.vhd_map.specs.Slots.{slot_of, least_free_slot}
use Rattle.vhd_map.proofs.SlotLemmas.{slot_of-set_same}
use Rattle.std.specs.Prelude.{slice_set}
use Rattle.vg_volumes.specs.Stored.{stored, held_in}
use Rattle.vhd_volumes.specs.Writes.{with_block}
use Rattle.vhd_volumes.specs.Truth.{layout_now}
use Rattle.vhd_write.proofs.BitLaws.{place-low, sector-whole, bitmap-wrote}
use Rattle.vhd_write.proofs.MapLaws.{least-below, with_block-held, with_block-new}
use Rattle.vhd_write.proofs.MarkLaws.{marks-all, marks-only, new-bitmap, new-slot}
use Rattle.vhd_write.proofs.PartLaws.{place_is, new-slot-in}
use Rattle.vhd_write.proofs.marked.slot_for.Goals as goal

pub returns-in-Some-clause-put : goal.returns-in-Some-clause-put
returns-in-Some-clause-put g c = (sym (with_block-held c.args.block c.args.map.now c.in-Some.slot (sym c.in-Some.ensures.slot)), sym c.in-Some.ensures.slot)

pub returns-in-Some-clause-reaches : goal.returns-in-Some-clause-reaches
returns-in-Some-clause-reaches g c = λ told. Reaches-none _ _

pub returns-in-Some-clause-fresh : goal.returns-in-Some-clause-fresh
returns-in-Some-clause-fresh g c = λ none. absurd (none-some c.in-Some.slot (sym none ∙ sym c.in-Some.ensures.slot))

-- ---- a new slot

pub place_of-at-requires-clause-slot : goal.place_of-at-requires-clause-slot
place_of-at-requires-clause-slot g c =
    let none : slot_of c.args.map.now c.args.block ≡ None = search rules in
    let low = least-below c.args.map.now c.args.block none c.requires.within in
    omega (arith, low, c.least_free-slot.ensures.least, c.requires.entries, ap (λ (x : Geometry). x.entries) c.geometry-geometry.ensures)

pub put-requires : goal.put-requires
put-requires g c =
    let l = layout_now (stored g.S.Store c.args.store.now) c.args.head.now in
    let none : slot_of c.args.map.now c.args.block ≡ None = search rules in
    let is = place_is c.place_of-at.result _ (g.S.Store.site c.args.store.now).geometry _ (least_free_slot c.args.map.now) 0 c.place_of-at.ensures c.geometry-geometry.ensures c.least_free-slot.ensures.least in
    let below = new-slot-in l c.args.map.now c.args.block none c.requires.within c.requires.room in
    sector-whole c.place_of-at.result _ _ (place-low l (least_free_slot c.args.map.now) c.place_of-at.result _ below is refl) c.add_marks.array_long

pub put-requires-2-clause-slot_in : goal.put-requires-2-clause-slot_in
put-requires-2-clause-slot_in g c =
    let none : slot_of c.args.map.now c.args.block ≡ None = search rules in
    let low = least-below c.args.map.now c.args.block none c.requires.within in
    omega (arith, low, c.least_free-slot.ensures.least)

pub returns-in_err-put-clause-reaches : goal.returns-in_err-put-clause-reaches
returns-in_err-put-clause-reaches g c = λ told.
    let l = layout_now (stored g.S.Store c.args.store.now) c.args.head.now in
    let none : slot_of c.args.map.now c.args.block ≡ None = search rules in
    let is = place_is c.place_of-at.result _ (g.S.Store.site c.args.store.now).geometry _ (least_free_slot c.args.map.now) 0 c.place_of-at.ensures c.geometry-geometry.ensures c.least_free-slot.ensures.least in
    let wide : c.geometry-geometry.result.block ≡ l.block = ap (λ (x : Geometry). x.block) c.geometry-geometry.ensures in
    new-bitmap l c.args.block c.place_of-at.result c.args.marks.now c.add_marks.new.bitmap c.args.map.now none c.requires.some is c.add_marks.array_long
    (marks-only l c.args.block c.args.marks.now 512 c.add_marks.new.bitmap (rw (sym wide) c.add_marks.ensures.others)) (c.put.ensures.torn told)

pub returns-clause-put : goal.returns-clause-put
returns-clause-put g c =
    let none : slot_of c.args.map.now c.args.block ≡ None = search rules in (
      (let e : c.put-2.new.self ≡ with_block c.args.block c.args.map.now = c.put-2.ensures ∙ ap (λ k. slice_set c.args.map.now c.args.block (Some k)) c.least_free-slot.ensures.least ∙ sym (with_block-new c.args.block c.args.map.now none) in e),
      (let e : slot_of c.put-2.new.self c.args.block ≡ Some c.least_free-slot.result = ap (λ n. slot_of n c.args.block) c.put-2.ensures ∙ slot_of-set_same c.args.map.now c.args.block c.least_free-slot.result c.requires.within in e),
    )

pub returns-clause-reaches : goal.returns-clause-reaches
returns-clause-reaches g c = λ told.
    let l = layout_now (stored g.S.Store c.args.store.now) c.args.head.now in
    let none : slot_of c.args.map.now c.args.block ≡ None = search rules in
    let is = place_is c.place_of-at.result _ (g.S.Store.site c.args.store.now).geometry _ (least_free_slot c.args.map.now) 0 c.place_of-at.ensures c.geometry-geometry.ensures c.least_free-slot.ensures.least in
    let wide : c.geometry-geometry.result.block ≡ l.block = ap (λ (x : Geometry). x.block) c.geometry-geometry.ensures in
    new-bitmap l c.args.block c.place_of-at.result c.args.marks.now c.add_marks.new.bitmap c.args.map.now none c.requires.some is c.add_marks.array_long
    (marks-only l c.args.block c.args.marks.now 512 c.add_marks.new.bitmap (rw (sym wide) c.add_marks.ensures.others)) (c.put.ensures.torn told)

pub returns-clause-fresh : goal.returns-clause-fresh
returns-clause-fresh g c = λ none told.
    let l = layout_now (stored g.S.Store c.args.store.now) c.args.head.now in
    let is = place_is c.place_of-at.result _ (g.S.Store.site c.args.store.now).geometry _ c.least_free-slot.result 0 c.place_of-at.ensures c.geometry-geometry.ensures refl in
    let wide : c.geometry-geometry.result.block ≡ l.block = ap (λ (x : Geometry). x.block) c.geometry-geometry.ensures in
    new-slot l c.args.block c.least_free-slot.result c.place_of-at.result c.args.marks.now c.add_marks.new.bitmap (reads (held_in (stored g.S.Store c.put.new.store) c.args.head.now.volume)) c.requires.some is
    (bitmap-wrote c.place_of-at.result c.add_marks.new.bitmap c.add_marks.array_long (c.in_ok-put.ensures.wrote told))
    (marks-only l c.args.block c.args.marks.now 512 c.add_marks.new.bitmap (rw (sym wide) c.add_marks.ensures.others))
    (marks-all l c.args.block c.args.marks.now c.add_marks.new.bitmap (rw (sym wide) c.add_marks.ensures.set))
