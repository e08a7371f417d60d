use Rattle.std.proofs.Common.{◌≡◌, ◌<◌, ◌*◌, ◌/◌, Ok, refl, sym, ap, ◌∙◌, subst, arith}
use Rattle.sm_base.specs.declared.names.Name.TheVariants.{Vhd}
use Rattle.sm_base.specs.declared.sizes.Geometry.{Geometry}
use Rattle.sm_disk.proofs.HeldLaws.{Keeps-then}
use Rattle.sm_machine.specs.Disks.{sector_bytes}
use Rattle.sm_record.specs.declared.records.Record.{Record}
use Rattle.sm_ready.specs.Known.{known}
use Rattle.vg_meta.specs.Roomy.{RoomyTable, table_alone}
use Rattle.vhd_chain.specs.Trees.{with_row}
use Rattle.sm_importing.specs.Endings.{CompletesImporting, IsSteadyAtRest, marked, row_of}
use Rattle.sm_importing.specs.Imports.{IsImporting, extents_of_volume}
use Rattle.sm_importing.proofs.FillLaws.{slots_room}
use Rattle.sm_importing.proofs.LowerLaws.{lower_step}
use Rattle.vhd_image.specs.Made.{IsDiskSize}
use Rattle.vhd_filling.specs.Filled.{slots_taken}
use Rattle.vhd_import.specs.declared.faults.ImportFault.TheVariants.{Device}
use Rattle.cmd_import.proofs.EndLaws.{cut_ends, few_then, few_works, importing_sealed, lower_works, made_ends, marked_extents, new_image, since_sealed, whole_are}
use Rattle.cmd_import.proofs.MadeLaws.{made_steady}
use Rattle.cmd_import.proofs.SizeLaws.{blocks_are, whole_few, whole_proper}
use Rattle.cmd_import.proofs.StillLaws.{ends_still}
use Rattle.cmd_import.proofs.ending.complete_disk.Goals as goal

pub overflow_mul-whole : goal.overflow_mul-whole
overflow_mul-whole g c =
    let f = c.args.filling in
    let is = whole_are c.args.sectors c.div_ceil.result c.from-block.result f.geometry c.div_ceil.ensures (c.from-block.ensures ∙ ap (λ (h : Geometry). h.block) (c.geometry-geometry.ensures ∙ c.requires.filled.fills.sizes)) in
    omega (arith, is, whole_few f.geometry c.args.sectors c.requires.some c.requires.fits)

pub finish-requires-clause-room : goal.finish-requires-clause-room
finish-requires-clause-room g c = slots_room (slots_taken c.args.filling) c.requires.filled (omega arith)

pub finish-requires-clause-size : goal.finish-requires-clause-size
finish-requires-clause-size g c =
    let f = c.args.filling in
    let is = whole_are c.args.sectors c.div_ceil.result c.from-block.result f.geometry c.div_ceil.ensures (c.from-block.ensures ∙ ap (λ (h : Geometry). h.block) (c.geometry-geometry.ensures ∙ c.requires.filled.fills.sizes)) in
    subst (λ (h : Geometry). IsDiskSize h (c.div_ceil.result * c.from-block.result)) (sym c.requires.filled.fills.sizes)
    (subst (IsDiskSize f.geometry) (sym is) (whole_proper f.geometry c.args.sectors c.requires.some c.requires.fits))

pub finish-requires-clause-blocks : goal.finish-requires-clause-blocks
finish-requires-clause-blocks g c = λ b k has.
    let f = c.args.filling in
    let is = whole_are c.args.sectors c.div_ceil.result c.from-block.result f.geometry c.div_ceil.ensures (c.from-block.ensures ∙ ap (λ (h : Geometry). h.block) (c.geometry-geometry.ensures ∙ c.requires.filled.fills.sizes)) in
    subst (λ n. b < n) (sym (ap (λ w. w / f.geometry.block) is ∙ blocks_are f.geometry c.args.sectors c.requires.some c.requires.fits)) (c.requires.blocks b k has)

pub returns-in_default-clause-ends : goal.returns-in_default-clause-ends
returns-in_default-clause-ends g c = λ a bytes since told made.
    let sealed = since_sealed g.S.Store c.args.store.now c.finish.new.store c.args.memory.now c.args.uuid.now c.args.filling c.requires.filled c.finish.ensures.works g.met.S.Store.leaves_now since in
    ends_still g.S.Store c.args.uuid.now bytes c.args.memory.now c.args.memory.now a c.finish.new.store Device refl told (λ told. sealed.so_far.left told)

pub complete-requires-clause-importing : goal.complete-requires-clause-importing
complete-requires-clause-importing g c =
    subst (λ (r : Record). IsImporting g.S.Store c.finish.new.store c.args.memory.now r.uuid) (sym c.record_of.ensures.is)
    (importing_sealed g.S.Store c.args.store.now c.finish.new.store c.args.memory.now c.args.uuid.now c.args.filling c.requires.filled c.finish.ensures.works)

pub complete-requires-clause-steady : goal.complete-requires-clause-steady
complete-requires-clause-steady g c =
    let e = c.in-Ok.ensures in
    subst (λ (r : Record). IsSteadyAtRest g.S.Store c.finish.new.store (Vhd r.uuid) c.in-Ok.image) (sym c.record_of.ensures.is)
    (made_steady g.S.Store c.args.store.now c.finish.new.store c.args.filling (c.div_ceil.result * c.from-block.result) c.args.now c.base_uuid-uid.result c.args.uuid.now c.requires.filled.volume c.finish.ensures.works
    c.in-Ok.image e.fields e.image e.holding)

pub returns-in_default-complete-clause-beside : goal.returns-in_default-complete-clause-beside
returns-in_default-complete-clause-beside g c = λ told. Keeps-then (c.finish.ensures.works.stays.beside told) (c.complete.ensures.step.beside told)

pub returns-in_default-complete-clause-ends : goal.returns-in_default-complete-clause-ends
returns-in_default-complete-clause-ends g c = λ a bytes since told made.
    let f = c.args.filling in
    let is = whole_are c.args.sectors c.div_ceil.result c.from-block.result f.geometry c.div_ceil.ensures (c.from-block.ensures ∙ ap (λ (h : Geometry). h.block) (c.geometry-geometry.ensures ∙ c.requires.filled.fills.sizes)) in
    let e = c.in-Ok.ensures in
    cut_ends g.S.Store c.args.store.now c.finish.new.store c.args.memory.now c.args.uuid.now f c.requires.filled c.finish.ensures.works
    c.args.sectors (c.div_ceil.result * c.from-block.result) c.args.now c.base_uuid-uid.result is e.image e.held a bytes g.met.S.Store.leaves_now since told made
    c.complete.new.store c.complete.new.memory (c.complete.result ≡ Ok tt)
    (subst (λ (r : Record). CompletesImporting g.S.Store r c.args.memory.now c.finish.new.store c.complete.new.store (known c.complete.new.memory) (c.complete.result ≡ Ok tt)) c.record_of.ensures.is c.complete.ensures.completes)

pub returns-clause-beside : goal.returns-clause-beside
returns-clause-beside g c = λ told. Keeps-then (c.finish.ensures.works.stays.beside told) (c.complete.ensures.step.beside told)

pub returns-clause-size : goal.returns-clause-size
returns-clause-size g c =
    let is = whole_are c.args.sectors c.div_ceil.result c.from-block.result (g.S.Store.site c.args.store.now).geometry c.div_ceil.ensures (c.from-block.ensures ∙ ap (λ (h : Geometry). h.block) c.geometry-geometry.ensures) in
    ap (λ w. sector_bytes * w) is

pub returns-clause-ends : goal.returns-clause-ends
returns-clause-ends g c = λ a bytes since told made.
    let f = c.args.filling in
    let is = whole_are c.args.sectors c.div_ceil.result c.from-block.result f.geometry c.div_ceil.ensures (c.from-block.ensures ∙ ap (λ (h : Geometry). h.block) (c.geometry-geometry.ensures ∙ c.requires.filled.fills.sizes)) in
    let e = c.in-Ok.ensures in
    made_ends g.S.Store c.args.store.now c.finish.new.store c.args.memory.now c.args.uuid.now f c.requires.filled c.finish.ensures.works
    c.args.sectors (c.div_ceil.result * c.from-block.result) c.args.now c.base_uuid-uid.result is e.image e.held a bytes g.met.S.Store.leaves_now since told made
    c.complete.new.store c.complete.new.memory (c.complete.result ≡ Ok tt)
    (subst (λ (r : Record). CompletesImporting g.S.Store r c.args.memory.now c.finish.new.store c.complete.new.store (known c.complete.new.memory) (c.complete.result ≡ Ok tt)) c.record_of.ensures.is c.complete.ensures.completes)
    c.in-Ok-complete.is _

pub returns-clause-image : goal.returns-clause-image
returns-clause-image g c =
    let e = c.in-Ok.ensures in
    let x = c.in-Ok-complete.ensures in
    let u = c.args.uuid.now in
    let d = c.finish.new.store in
    new_image g.S.Store c.args.store.now d c.complete.new.store c.args.memory.now c.complete.new.memory u c.args.filling c.args.now (c.div_ceil.result * c.from-block.result) c.seq.result _
    c.base_uuid-uid.result c.in-Ok.image c.requires.filled c.finish.ensures.works c.base_uuid-uid.ensures (c.seq.ensures.seq ∙ ap (λ (k : RoomyTable). k.sequence) c.table.ensures.table) e.fields
    (x.table ∙ ap (λ (r : Record). marked (table_alone (g.S.Store.table d)) (Vhd r.uuid)) c.record_of.ensures.is)
    (x.image_row ∙ ap (λ (r : Record). with_row (row_of c.in-Ok.image (extents_of_volume (table_alone (g.S.Store.table d)) (Vhd r.uuid))) c.args.memory.now.tree.rows) c.record_of.ensures.is)
    refl

pub returns-in_default-clause-few : goal.returns-in_default-clause-few
returns-in_default-clause-few g c = few_works c.finish.ensures.works

pub returns-in_default-complete-clause-few : goal.returns-in_default-complete-clause-few
returns-in_default-complete-clause-few g c = few_then c.finish.ensures.works c.complete.ensures.step

pub returns-clause-few : goal.returns-clause-few
returns-clause-few g c = few_then c.finish.ensures.works c.complete.ensures.step

pub returns-clause-extents : goal.returns-clause-extents
returns-clause-extents g c =
    let d = c.finish.new.store in
    marked_extents g.S.Store c.args.store.now d c.complete.new.store c.args.memory.now c.args.uuid.now c.args.filling c.requires.filled c.finish.ensures.works
    (c.in-Ok-complete.ensures.table ∙ ap (λ (r : Record). marked (table_alone (g.S.Store.table d)) (Vhd r.uuid)) c.record_of.ensures.is)
    ∙ ap (λ t. extents_of_volume t (Vhd c.args.uuid.now)) c.finish.ensures.works.stays.table

pub returns-in_default-clause-no_lower : goal.returns-in_default-clause-no_lower
returns-in_default-clause-no_lower g c = lower_works g.met.S.Store.leaves_now c.requires.filled.importing.usable c.finish.ensures.works

pub returns-in_default-complete-clause-no_lower : goal.returns-in_default-complete-clause-no_lower
returns-in_default-complete-clause-no_lower g c = lower_step c.complete.ensures.step (lower_works g.met.S.Store.leaves_now c.requires.filled.importing.usable c.finish.ensures.works)

pub returns-clause-no_lower : goal.returns-clause-no_lower
returns-clause-no_lower g c = lower_step c.complete.ensures.step (lower_works g.met.S.Store.leaves_now c.requires.filled.importing.usable c.finish.ensures.works)
