use Rattle.std.proofs.Common.{◌≡◌, length, sym, ap, subst, ◌∙◌, arith}
use Rattle.sm_disk.proofs.ReachesLaws.{Reaches-then}
use Rattle.vg_layout.specs.Fields.{layout_number, pointer, slot_number}
use Rattle.vg_layout.specs.Places.{Frame, slot_place}
use Rattle.vg_store.specs.Formats.{IsBlank, new_frame}
use Rattle.vg_store.proofs.FormatLaws.{at_first, in_order, torn_records, torn_text, put_header, filled_after}
use Rattle.vg_store.proofs.formats.fill.Goals as goal

pub returns-in_err-write-clause-reaches : goal.returns-in_err-write-clause-reaches
returns-in_err-write-clause-reaches g c = λ told. torn_records (layout_number c.args.draft.now.label.layout) c.area.result _ _ _ c.area.ensures (omega arith) (c.write.ensures.torn told)

pub returns-in_err-write_sector-clause-reaches : goal.returns-in_err-write_sector-clause-reaches
returns-in_err-write_sector-clause-reaches g c = λ told.
    let d = c.args.draft.now in
    let l = layout_number d.label.layout in
    let place : c.place.result ≡ slot_place (new_frame l) (slot_number d.header.slot) = c.place.ensures ∙ ap (λ (f : Frame). slot_place f (slot_number d.header.slot)) c.of-frame.ensures in
    Reaches-then (torn_records l c.area.result _ _ _ c.area.ensures (omega arith) (c.write.ensures.torn told))
    (torn_text l (slot_number d.header.slot) c.place.result _ _ _ d.first place (omega arith) (c.write_sector.ensures.torn told))

pub returns-in_err-put-clause-reaches : goal.returns-in_err-put-clause-reaches
returns-in_err-put-clause-reaches g c = λ told.
    let d = c.args.draft.now in
    let l = layout_number d.label.layout in
    let place : c.place.result ≡ slot_place (new_frame l) (slot_number d.header.slot) = c.place.ensures ∙ ap (λ (f : Frame). slot_place f (slot_number d.header.slot)) c.of-frame.ensures in
    Reaches-then (torn_records l c.area.result _ _ _ c.area.ensures (omega arith) (c.write.ensures.torn told))
    (Reaches-then (torn_text l (slot_number d.header.slot) c.place.result _ _ _ d.first place (omega arith) (c.write_sector.ensures.torn told))
    (put_header l c.of-frame.result.header _ _ _ (ap (λ (f : Frame). f.header) c.of-frame.ensures) (omega arith) (c.put.ensures.reaches told)))

pub returns-clause-reaches : goal.returns-clause-reaches
returns-clause-reaches g c = λ told.
    let d = c.args.draft.now in
    let l = layout_number d.label.layout in
    let place : c.place.result ≡ slot_place (new_frame l) (slot_number d.header.slot) = c.place.ensures ∙ ap (λ (f : Frame). slot_place f (slot_number d.header.slot)) c.of-frame.ensures in
    Reaches-then (torn_records l c.area.result _ _ _ c.area.ensures (omega arith) (c.write.ensures.torn told))
    (Reaches-then (torn_text l (slot_number d.header.slot) c.place.result _ _ _ d.first place (omega arith) (c.write_sector.ensures.torn told))
    (put_header l c.of-frame.result.header _ _ _ (ap (λ (f : Frame). f.header) c.of-frame.ensures) (omega arith) (c.put.ensures.reaches told)))

pub returns-clause-filled : goal.returns-clause-filled
returns-clause-filled g c = λ told.
    let d = c.args.draft.now in
    let l = layout_number d.label.layout in
    let place : c.place.result ≡ slot_place (new_frame l) (slot_number d.header.slot) = c.place.ensures ∙ ap (λ (f : Frame). slot_place f (slot_number d.header.slot)) c.of-frame.ensures in
    let text_long : length d.text ≡ 512 = omega arith in
    let head_long : length c.write-2.new.to ≡ 512 = omega arith in
    let records_long : length c.deref.result.now ≡ 262144 = omega arith in
    let blank : IsBlank c.deref.result.now = subst IsBlank (sym c.deref.ensures.value) d.blank in
    let h = g.D.Disk.held in
    filled_after l (h c.args.disk.now) (h c.write.new.self) (h c.write_sector.new.disk) (h c.put.new.disk) (pointer d.header) c.deref.result.now d.text c.write-2.new.to c.area.result c.place.result c.of-frame.result.header
    d.first c.area.ensures place (ap (λ (f : Frame). f.header) c.of-frame.ensures) records_long blank text_long c.write-2.ensures head_long
    (c.in_ok-write.ensures.wrote told) (c.in_ok-write_sector.ensures.wrote told) (c.in_ok-put.ensures.within told) (c.in_ok-put.ensures.elsewhere told)

pub write_sector-requires : goal.write_sector-requires
write_sector-requires g c =
    let d = c.args.draft.now in
    let l = layout_number d.label.layout in
    let place : c.place.result ≡ slot_place (new_frame l) (slot_number d.header.slot) = c.place.ensures ∙ ap (λ (f : Frame). slot_place f (slot_number d.header.slot)) c.of-frame.ensures in
    omega (arith, place, at_first l (slot_number d.header.slot) d.first, (in_order l).area, c.requires.room, c.write.ensures.size)

pub put-requires : goal.put-requires
put-requires g c =
    let l = layout_number c.args.draft.now.label.layout in
    let header : c.of-frame.result.header ≡ (new_frame l).header = ap (λ (f : Frame). f.header) c.of-frame.ensures in
    record { some = omega arith; whole = omega arith; within = omega (arith, header, (in_order l).slot, (in_order l).area, c.requires.room, c.write.ensures.size, c.write_sector.ensures.size) }
