use Rattle.std.proofs.Common.{◌≡◌, Err, refl, ◌∙◌}
use Rattle.sm_base.specs.declared.faults.OpenFault.{OpenFault}
use Rattle.sm_disk.specs.Held.{reads}
use Rattle.vg_layout.specs.Fields.{layout_number, places_in, plate, pointer}
use Rattle.vg_layout.specs.Opening.{IsRefused, by_label, plate_of, pointer_by}
use Rattle.vg_meta.specs.Roomy.{table_alone}
use Rattle.vg_store.specs.Openings.{IsTextAnswer}
use Rattle.vg_store.proofs.OpeningLaws.{answer_from, apart_on, found_from, refused_header, refused_text, room_for, slot_most}
use Rattle.vg_store.proofs.openings.find.Goals as goal

pub returns-in-Err-clause-err : goal.returns-in-Err-clause-err
returns-in-Err-clause-err g c =
    let d = g.D.Disk in
    let a = d.held c.args.disk.now in
    let size = d.size c.args.disk.now in
    answer_from (λ (e : OpenFault). d.told → plate_of size (reads a) ≡ Err e) (λ (e : OpenFault). d.told → IsRefused size (reads a) e)
    (d.faults c.args.disk.now) (d.faults c.args.disk.now) (d.faults c.label_on.new.disk) c.in-Err.fault refl
    (λ e is told. by_label e (is told)) c.in-Err.ensures.err

pub header_on-requires : goal.header_on-requires
header_on-requires g c = apart_on (places_in c.of-frame.result) c.of-frame.ensures c.in-Ok.ensures.sizes c.label_on.ensures.size

pub returns-in-Err-header_on-clause-err : goal.returns-in-Err-header_on-clause-err
returns-in-Err-header_on-clause-err g c =
    let d = g.D.Disk in
    let a = d.held c.args.disk.now in
    let b = d.held c.label_on.new.disk in
    let size = d.size c.args.disk.now in
    let f = places_in c.of-frame.result in
    answer_from (λ (e : OpenFault). d.told → pointer_by f (reads b f.header) ≡ Err e) (λ (e : OpenFault). d.told → IsRefused size (reads a) e)
    (d.faults c.args.disk.now) (d.faults c.label_on.new.disk) (d.faults c.header_on.new.disk) c.in-Err-header_on.fault c.in-Ok.ensures.calm
    (λ e is told. refused_header a b (plate c.in-Ok.found.0) f e (c.label_on.ensures.same told) (c.in-Ok.ensures.ok told) c.of-frame.ensures (is told)) c.in-Err-header_on.ensures.err

pub table_on-requires-clause-apart : goal.table_on-requires-clause-apart
table_on-requires-clause-apart g c = apart_on (places_in c.of-frame.result) c.of-frame.ensures c.in-Ok.ensures.sizes (c.header_on.ensures.size ∙ c.label_on.ensures.size)

pub table_on-requires-clause-buffer : goal.table_on-requires-clause-buffer
table_on-requires-clause-buffer g c =
    room_for c.in-Ok.found.1 (layout_number c.in-Ok.found.0.layout) _ (places_in c.of-frame.result) c.of-frame.ensures (c.deref_mut.ensures.len ∙ c.in-Ok-buffer_of.ensures.long)

pub table_on-requires-clause-few : goal.table_on-requires-clause-few
table_on-requires-clause-few g c = slot_most c.in-Ok.found.1 (layout_number c.in-Ok.found.0.layout) (places_in c.of-frame.result) c.of-frame.ensures

pub returns-in-Err-table_on-clause-err : goal.returns-in-Err-table_on-clause-err
returns-in-Err-table_on-clause-err g c =
    let d = g.D.Disk in
    let a = d.held c.args.disk.now in
    let b = d.held c.label_on.new.disk in
    let e = d.held c.header_on.new.disk in
    let size = d.size c.args.disk.now in
    let h = pointer c.in-Ok-header_on.header in
    let f = places_in c.of-frame.result in
    answer_from (λ (x : OpenFault). d.told → IsTextAnswer c.grammar_of-grammar.result f c.in-Ok.found.0.extents h e x) (λ (x : OpenFault). d.told → IsRefused size (reads a) x)
    (d.faults c.args.disk.now) (d.faults c.header_on.new.disk) (d.faults c.table_on.new.disk) c.in-Err-table_on.fault (c.in-Ok-header_on.ensures.calm ∙ c.in-Ok.ensures.calm)
    (λ x is told. refused_text a b e (plate c.in-Ok.found.0) f c.grammar_of-grammar.result h x (c.label_on.ensures.same told) (c.header_on.ensures.same told) (c.in-Ok.ensures.ok told) c.of-frame.ensures c.grammar_of-grammar.ensures
    (c.in-Ok-header_on.ensures.ok told) (is told)) c.in-Err-table_on.ensures.err

pub returns-clause-found : goal.returns-clause-found
returns-clause-found g c = λ told.
    let d = g.D.Disk in
    found_from (d.held c.args.disk.now) (d.held c.label_on.new.disk) (d.held c.header_on.new.disk) (plate c.in-Ok.found.0) (places_in c.of-frame.result) c.grammar_of-grammar.result (pointer c.in-Ok-header_on.header) (table_alone c.in-Ok-table_on.table)
    (c.label_on.ensures.same told) (c.header_on.ensures.same told) (c.in-Ok.ensures.ok told) c.of-frame.ensures c.grammar_of-grammar.ensures (c.in-Ok-header_on.ensures.ok told) (c.in-Ok-table_on.ensures.stands told) c.in-Ok-table_on.ensures.table
