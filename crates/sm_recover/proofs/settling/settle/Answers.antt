use Rattle.std.proofs.Common.{inr, ap, sym, subst₂, ◌∙◌, arith, Result, Ok, Err, OnErr}
use Rattle.sm_disk.proofs.HeldLaws.{Keeps-then}
use Rattle.sm_disk.specs.Held.{reads}
use Rattle.vg_meta.specs.Roomy.{table_alone}
use Rattle.vg_meta.specs.Tables.{VolumeTable}
use Rattle.vg_volumes.specs.Sites.{Site}
use Rattle.sm_standing.specs.Dropped.{drop_changes}
use Rattle.sm_standing.specs.Opened.{cleaned, ended, undone}
use Rattle.sm_ready.specs.Runs.{AllMay}
use Rattle.sm_ready.specs.Stores.{store_content}
use Rattle.sm_recover.proofs.DroppedThen.{few_dropped, few_dropping, left_dropping, left_mending, logs_behind, opened_dropped, opened_then, place_dropped, place_passes, settled_dropped, shown_dropped, site_dropped, table_dropped, well_dropped}
use Rattle.sm_recover.proofs.TakenOver.{one_table, stands_behind}
use Rattle.sm_recover.proofs.settling.settle.Goals as goal

pub drop_logs-requires-clause-allowed : goal.drop_logs-requires-clause-allowed
drop_logs-requires-clause-allowed g c =
    let r = stands_behind c.checked_with_room.ensures.reads c.in_ok-take_over.ensures.stands in
    subst₂ (λ (s : Site) (t : VolumeTable). AllMay s.count t (drop_changes t)) (sym r.site) (sym r.table) c.in_ok-memory.ensures.droppable

pub returns-in_default-clause-beside : goal.returns-in_default-clause-beside
returns-in_default-clause-beside g c = λ told. Keeps-then (Keeps-then (c.checked_with_room.ensures.reads.stays.beside told) (c.take_over.ensures.beside told)) (c.drop_logs.ensures.part.beside told)

pub returns-in_default-clause-few : goal.returns-in_default-clause-few
returns-in_default-clause-few g c = few_dropping (stands_behind c.checked_with_room.ensures.reads c.in_ok-take_over.ensures.stands) c.drop_logs.ensures.part.part

pub returns-in_default-clause-few_left : goal.returns-in_default-clause-few_left
returns-in_default-clause-few_left g c = λ told t image leaves.
    few_dropping (stands_behind c.checked_with_room.ensures.reads c.in_ok-take_over.ensures.stands) (c.drop_logs.ensures.part.left told t image leaves).table

pub returns-in_default-clause-crash : goal.returns-in_default-clause-crash
returns-in_default-clause-crash g c = λ told t image leaves.
    let k = c.in_ok-memory.ensures in
    inr (left_dropping (stands_behind c.checked_with_room.ensures.reads c.in_ok-take_over.ensures.stands) told k.openable.table (k.sound told) (c.requires.settled told) (c.drop_logs.ensures.part.left told t image leaves))

pub mend-requires-clause-settled : goal.mend-requires-clause-settled
mend-requires-clause-settled g c = λ told.
    settled_dropped (stands_behind c.checked_with_room.ensures.reads c.in_ok-take_over.ensures.stands) c.drop_logs.ensures.part c.in-Ok.ensures.all told (c.requires.settled told)

pub mend-requires-clause-sound : goal.mend-requires-clause-sound
mend-requires-clause-sound g c = λ told.
    let k = c.in_ok-memory.ensures in
    (place_passes (store_content g.S.Store c.drop_logs.new.store)
    (place_dropped (stands_behind c.checked_with_room.ensures.reads c.in_ok-take_over.ensures.stands) c.drop_logs.ensures.part c.in-Ok.ensures.all told (c.requires.settled told) k.openable.table (k.sound told))).0

pub mend-requires-clause-opened : goal.mend-requires-clause-opened
mend-requires-clause-opened g c =
    opened_then (stands_behind c.checked_with_room.ensures.reads c.in_ok-take_over.ensures.stands) c.drop_logs.ensures.part c.in-Ok.ensures.all c.requires.settled c.in_ok-memory.memory c.in_ok-memory.ensures.opened

pub returns-in_default-mend-clause-beside : goal.returns-in_default-mend-clause-beside
returns-in_default-mend-clause-beside g c = λ told.
    Keeps-then (Keeps-then (Keeps-then (c.checked_with_room.ensures.reads.stays.beside told) (c.take_over.ensures.beside told)) (c.drop_logs.ensures.part.beside told)) (c.mend.ensures.beside told)

pub returns-in_default-mend-clause-few : goal.returns-in_default-mend-clause-few
returns-in_default-mend-clause-few g c =
    few_dropped (stands_behind c.checked_with_room.ensures.reads c.in_ok-take_over.ensures.stands) c.drop_logs.ensures.part c.in-Ok.ensures.all (table_alone (g.S.Store.table c.mend.new.store)) c.mend.ensures.few

pub returns-in_default-mend-clause-few_left : goal.returns-in_default-mend-clause-few_left
returns-in_default-mend-clause-few_left g c = λ told t image leaves.
    few_dropped (stands_behind c.checked_with_room.ensures.reads c.in_ok-take_over.ensures.stands) c.drop_logs.ensures.part c.in-Ok.ensures.all t (c.mend.ensures.few_left told t image leaves)

pub returns-in_default-mend-clause-crash : goal.returns-in_default-mend-clause-crash
returns-in_default-mend-clause-crash g c = λ told t image leaves.
    let k = c.in_ok-memory.ensures in
    inr (left_mending (stands_behind c.checked_with_room.ensures.reads c.in_ok-take_over.ensures.stands) c.drop_logs.ensures.part c.in-Ok.ensures.all told (c.requires.settled told) k.openable.table (k.sound told)
    (c.mend.ensures.crash told t image leaves))

pub returns-clause-beside : goal.returns-clause-beside
returns-clause-beside g c = λ told.
    Keeps-then (Keeps-then (Keeps-then (c.checked_with_room.ensures.reads.stays.beside told) (c.take_over.ensures.beside told)) (c.drop_logs.ensures.part.beside told)) (c.mend.ensures.beside told)

pub returns-clause-cleaned : goal.returns-clause-cleaned
returns-clause-cleaned g c =
    c.in-Ok-mend.ensures.cleaned
    ∙ ap (λ t. cleaned (undone (ended t))) (table_dropped (stands_behind c.checked_with_room.ensures.reads c.in_ok-take_over.ensures.stands) c.drop_logs.ensures.part c.in-Ok.ensures.all)

pub returns-clause-few : goal.returns-clause-few
returns-clause-few g c =
    few_dropped (stands_behind c.checked_with_room.ensures.reads c.in_ok-take_over.ensures.stands) c.drop_logs.ensures.part c.in-Ok.ensures.all (table_alone (g.S.Store.table c.mend.new.store)) c.mend.ensures.few

pub returns-clause-few_left : goal.returns-clause-few_left
returns-clause-few_left g c = λ told t image leaves.
    few_dropped (stands_behind c.checked_with_room.ensures.reads c.in_ok-take_over.ensures.stands) c.drop_logs.ensures.part c.in-Ok.ensures.all t (c.mend.ensures.few_left told t image leaves)

pub returns-clause-ready : goal.returns-clause-ready
returns-clause-ready g c = λ told well.
    let k = c.in_ok-memory.ensures in
    c.in-Ok-mend.ensures.ready told
    (well_dropped (stands_behind c.checked_with_room.ensures.reads c.in_ok-take_over.ensures.stands) c.drop_logs.ensures.part c.in-Ok.ensures.all told (c.requires.settled told) k.openable.table (k.sound told) well)

pub returns-clause-disks : goal.returns-clause-disks
returns-clause-disks g c = λ told well.
    let k = c.in_ok-memory.ensures in
    let r = stands_behind c.checked_with_room.ensures.reads c.in_ok-take_over.ensures.stands in
    c.in-Ok-mend.ensures.disks told (well_dropped r c.drop_logs.ensures.part c.in-Ok.ensures.all told (c.requires.settled told) k.openable.table (k.sound told) well)
    ∙ shown_dropped r c.drop_logs.ensures.part c.in-Ok.ensures.all told (c.requires.settled told) k.openable.table (k.sound told)

pub returns-clause-logs : goal.returns-clause-logs
returns-clause-logs g c = λ told well.
    let k = c.in_ok-memory.ensures in
    let r = stands_behind c.checked_with_room.ensures.reads c.in_ok-take_over.ensures.stands in
    let m = c.in-Ok-mend.ensures in
    let e = c.mend.new.store in
    let left = left_mending r c.drop_logs.ensures.part c.in-Ok.ensures.all told (c.requires.settled told) k.openable.table (k.sound told)
    (c.mend.ensures.crash told (table_alone (g.S.Store.table e)) (reads (g.S.Store.area e)) (g.met.S.Store.leaves_read e told m.usable_still)) in
    logs_behind g.S.Store c.args.store.now e c.mend.new.memory (c.mend.ensures.site ∙ site_dropped r c.drop_logs.ensures.part c.in-Ok.ensures.all) m.orderly m.tidy m.no_stray_log
    (m.ready told (well_dropped r c.drop_logs.ensures.part c.in-Ok.ensures.all told (c.requires.settled told) k.openable.table (k.sound told) well)) (left.repaired well)

pub returns-clause-opened : goal.returns-clause-opened
returns-clause-opened g c = λ told well.
    let k = c.in_ok-memory.ensures in
    let r = stands_behind c.checked_with_room.ensures.reads c.in_ok-take_over.ensures.stands in
    c.in-Ok-mend.ensures.opened told (well_dropped r c.drop_logs.ensures.part c.in-Ok.ensures.all told (c.requires.settled told) k.openable.table (k.sound told) well)
    ∙ opened_dropped r c.drop_logs.ensures.part c.in-Ok.ensures.all told (c.requires.settled told)

pub returns-clause-crash : goal.returns-clause-crash
returns-clause-crash g c = λ told t image leaves.
    let k = c.in_ok-memory.ensures in
    inr (left_mending (stands_behind c.checked_with_room.ensures.reads c.in_ok-take_over.ensures.stands) c.drop_logs.ensures.part c.in-Ok.ensures.all told (c.requires.settled told) k.openable.table (k.sound told)
    (c.mend.ensures.crash told t image leaves))

pub returns-clause-attachment_room : goal.returns-clause-attachment_room
returns-clause-attachment_room g c = omega (arith, c.in_ok-memory.ensures.attachment_room, c.in-Ok-mend.ensures.attachments)

pub returns-in_err-memory-clause-few_left : goal.returns-in_err-memory-clause-few_left
returns-in_err-memory-clause-few_left g c = λ told t image l.
    one_table g.S.Store c.args.store.now (g.met.S.Store.versions c.args.store.now) c.requires.usable (g.met.S.Store.leaves_old c.args.store.now told) (g.met.S.Store.leaves_now c.args.store.now told) t image
    (c.checked_with_room.ensures.reads.leaves told t image l)

pub returns-in_err-take_over-clause-few_left : goal.returns-in_err-take_over-clause-few_left
returns-in_err-take_over-clause-few_left g c = λ told t image l.
    one_table g.S.Store c.args.store.now (g.met.S.Store.versions c.args.store.now) c.requires.usable (g.met.S.Store.leaves_old c.args.store.now told) (g.met.S.Store.leaves_now c.args.store.now told) t image
    (c.checked_with_room.ensures.reads.leaves told t image (c.take_over.ensures.leaves told t image l))

pub returns-in_err-take_over-clause-beside : goal.returns-in_err-take_over-clause-beside
returns-in_err-take_over-clause-beside g c = λ told. Keeps-then (c.checked_with_room.ensures.reads.stays.beside told) (c.take_over.ensures.beside told)

on_err : {T E : Type 0} (r : Result T E) {P : Type 0} → P → OnErr r P
on_err (Ok x) p = tt
on_err (Err e) p = p

pub returns-in_err-take_over-clause-unsound : goal.returns-in_err-take_over-clause-unsound
returns-in_err-take_over-clause-unsound g c = on_err c.from_residual-in_err-take_over.result (λ told never. absurd (never (c.in_ok-memory.ensures.sound told)))
