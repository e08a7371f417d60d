use Rattle.std.proofs.Common.{IsSome, refl, sym, ap, ap₂, ◌∙◌, subst, subst₂}
use Rattle.std.specs.Option.{option_copied}
use Rattle.sm_base.specs.declared.names.Name.TheVariants.{Mgt}
use Rattle.vg_meta.specs.Roomy.{table_alone}
use Rattle.vg_volumes.proofs.StoredLaws.{stays_from, stays_then, works_keeps, works_then, works_writes}
use Rattle.sm_mgt.specs.Places.{place_for}
use Rattle.sm_ready.specs.Known.{known, shape_in}
use Rattle.sm_ready.specs.Middle.{with_place}
use Rattle.sm_ready.specs.Orderly.{IsOrderly}
use Rattle.sm_ready.specs.Ready.{IsTidy}
use Rattle.sm_ready.proofs.ChainLaws.{err_not_ok}
use Rattle.sm_ready.proofs.FrameLaws.{true_recorded}
use Rattle.sm_ready.proofs.LabelLaws.{orderly_labelled, shape_labelled}
use Rattle.sm_ready.proofs.MakingLaws.{places_stay}
use Rattle.sm_ready.proofs.RoomLaws.{rows_stays}
use Rattle.sm_ready.proofs.SyncLaws.{synced_failed}
use Rattle.sm_ready.proofs.TakenLaws.{is_told}
use Rattle.cmd_change.specs.Changing.{relabelled}
use Rattle.cmd_change.proofs.PutLaws.{label_done, label_failed, label_unsettled, memory_put, recorded, unrecorded, tidy_labelled}
use Rattle.cmd_change.proofs.labels.label.Goals as goal

pub unreachable-requires : goal.unreachable-requires
unreachable-requires g c =
    unrecorded _ _ (known c.args.memory.now) c.args.disk.now c.args.text.now c.requires.session.orderly c.requires.session.tidy c.requires.allowed (sym c.find.ensures.found ∙ ap option_copied c.in_default.is)

pub returns-in_err-sync-clause-done : goal.returns-in_err-sync-clause-done
returns-in_err-sync-clause-done g c = λ told ready.
    synced_failed
    (is_told g.S.Store c.args.store.now c.args.memory.now c.requires.session.orderly c.requires.session.usable told ready (g.met.S.Store.leaves_now c.args.store.now told c.requires.session.usable))
    (record { site = c.sync.ensures.site; table = c.sync.ensures.table.0; failed = c.sync.ensures.table.1; keeps = c.sync.ensures.keeps told; leaves = c.sync.ensures.leaves told })
    (known c.args.memory.now) _ _ (λ fine. err_not_ok _ tt c.from_residual.ensures.0 fine) refl

pub put-requires-clause-size : goal.put-requires-clause-size
put-requires-clause-size g c =
    let e = c.sync.ensures in places_stay c.args.memory.now c.requires.session.orderly (stays_from {g = g.S.Store} e.site e.table e.no_less e.counts e.beside)

pub put-requires-clause-room : goal.put-requires-clause-room
put-requires-clause-room g c =
    let h = recorded _ _ (known c.args.memory.now) c.args.disk.now c.args.text.now c.in-Some.record.now c.requires.session.orderly c.requires.allowed (sym c.find.ensures.found ∙ ap option_copied c.in-Some.is) in
    subst (λ o. IsSome o) (sym (ap (λ r. place_for c.args.memory.now.records r.uuid) c.relabelled-entry.ensures.is ∙ ap (place_for c.args.memory.now.records) h.labelled.uuid ∙ h.placed)) refl

pub returns-clause-stays : goal.returns-clause-stays
returns-clause-stays g c =
    let e = c.sync.ensures in let f = c.sync-2.ensures in
    stays_then (stays_from {g = g.S.Store} e.site e.table e.no_less e.counts e.beside) (stays_then c.put.ensures.writes.stays (stays_from {g = g.S.Store} f.site f.table f.no_less f.counts f.beside))

pub returns-in_err-put-clause-stays : goal.returns-in_err-put-clause-stays
returns-in_err-put-clause-stays g c = let e = c.sync.ensures in stays_then (stays_from {g = g.S.Store} e.site e.table e.no_less e.counts e.beside) c.put.ensures.writes.stays

pub returns-in_err-sync-2-clause-stays : goal.returns-in_err-sync-2-clause-stays
returns-in_err-sync-2-clause-stays g c =
    let e = c.sync.ensures in let f = c.sync-2.ensures in
    stays_then (stays_from {g = g.S.Store} e.site e.table e.no_less e.counts e.beside) (stays_then c.put.ensures.writes.stays (stays_from {g = g.S.Store} f.site f.table f.no_less f.counts f.beside))

pub returns-in_err-put-clause-done : goal.returns-in_err-put-clause-done
returns-in_err-put-clause-done g c = λ told ready.
    label_failed
    (is_told g.S.Store c.args.store.now c.args.memory.now c.requires.session.orderly c.requires.session.usable told ready (g.met.S.Store.leaves_now c.args.store.now told c.requires.session.usable))
    (record { site = c.sync.ensures.site; table = c.sync.ensures.table.0; failed = c.sync.ensures.table.1; keeps = c.sync.ensures.keeps told; leaves = c.sync.ensures.leaves told })
    (c.in_ok-sync.ensures.settled told) (g.met.S.Store.leaves_now c.sync.new.self told (c.sync.ensures.table.1 ∙ c.requires.session.usable)) c.args.disk.now c.args.text.now c.in-Some.record.now c.relabelled-entry.result
    (recorded _ _ (known c.args.memory.now) c.args.disk.now c.args.text.now c.in-Some.record.now c.requires.session.orderly c.requires.allowed (sym c.find.ensures.found ∙ ap option_copied c.in-Some.is))
    c.relabelled-entry.ensures.is c.relabelled-entry.ensures.proper c.requires.allowed c.put.ensures.writes
    (g.met.S.Store.leaves_now c.put.new.store told (c.put.ensures.writes.stays.failed ∙ c.sync.ensures.table.1 ∙ c.requires.session.usable))
    _ _ (λ fine. err_not_ok _ tt c.from_residual-in_err-put.ensures.0 fine) refl

pub returns-in_err-sync-2-clause-done : goal.returns-in_err-sync-2-clause-done
returns-in_err-sync-2-clause-done g c = λ told ready.
    label_unsettled
    (is_told g.S.Store c.args.store.now c.args.memory.now c.requires.session.orderly c.requires.session.usable told ready (g.met.S.Store.leaves_now c.args.store.now told c.requires.session.usable))
    (record { site = c.sync.ensures.site; table = c.sync.ensures.table.0; failed = c.sync.ensures.table.1; keeps = c.sync.ensures.keeps told; leaves = c.sync.ensures.leaves told })
    (c.in_ok-sync.ensures.settled told) (g.met.S.Store.leaves_now c.sync.new.self told (c.sync.ensures.table.1 ∙ c.requires.session.usable)) c.args.disk.now c.args.text.now c.in-Some.record.now c.relabelled-entry.result
    (recorded _ _ (known c.args.memory.now) c.args.disk.now c.args.text.now c.in-Some.record.now c.requires.session.orderly c.requires.allowed (sym c.find.ensures.found ∙ ap option_copied c.in-Some.is))
    c.relabelled-entry.ensures.is c.relabelled-entry.ensures.proper c.requires.allowed c.put.ensures.writes
    (g.met.S.Store.leaves_now c.put.new.store told (c.put.ensures.writes.stays.failed ∙ c.sync.ensures.table.1 ∙ c.requires.session.usable))
    (record { site = c.sync-2.ensures.site; table = c.sync-2.ensures.table.0; failed = c.sync-2.ensures.table.1; keeps = c.sync-2.ensures.keeps told; leaves = c.sync-2.ensures.leaves told })
    _ _ (λ fine. err_not_ok _ tt c.from_residual-in_err-sync-2.ensures.0 fine) refl

pub returns-clause-done : goal.returns-clause-done
returns-clause-done g c = λ told ready.
    label_done
    (is_told g.S.Store c.args.store.now c.args.memory.now c.requires.session.orderly c.requires.session.usable told ready (g.met.S.Store.leaves_now c.args.store.now told c.requires.session.usable))
    (record { site = c.sync.ensures.site; table = c.sync.ensures.table.0; failed = c.sync.ensures.table.1; keeps = c.sync.ensures.keeps told; leaves = c.sync.ensures.leaves told })
    (c.in_ok-sync.ensures.settled told) (g.met.S.Store.leaves_now c.sync.new.self told (c.sync.ensures.table.1 ∙ c.requires.session.usable)) c.args.disk.now c.args.text.now c.in-Some.record.now c.relabelled-entry.result
    (recorded _ _ (known c.args.memory.now) c.args.disk.now c.args.text.now c.in-Some.record.now c.requires.session.orderly c.requires.allowed (sym c.find.ensures.found ∙ ap option_copied c.in-Some.is))
    c.relabelled-entry.ensures.is c.relabelled-entry.ensures.proper c.requires.allowed c.put.ensures.writes
    (g.met.S.Store.leaves_now c.put.new.store told (c.put.ensures.writes.stays.failed ∙ c.sync.ensures.table.1 ∙ c.requires.session.usable))
    (record { site = c.sync-2.ensures.site; table = c.sync-2.ensures.table.0; failed = c.sync-2.ensures.table.1; keeps = c.sync-2.ensures.keeps told; leaves = c.sync-2.ensures.leaves told })
    (c.in_ok-sync-2.ensures.settled told) c.in_ok-put.ensures.wrote _
    (memory_put (known c.args.memory.now) c.args.disk.now c.args.text.now c.in-Some.record.now c.relabelled-entry.result
    (recorded _ _ (known c.args.memory.now) c.args.disk.now c.args.text.now c.in-Some.record.now c.requires.session.orderly c.requires.allowed (sym c.find.ensures.found ∙ ap option_copied c.in-Some.is))
    c.put.new.self c.relabelled-entry.ensures.is c.in_ok-put.ensures.places) _

pub returns-clause-shape : goal.returns-clause-shape
returns-clause-shape g c =
    let of = (recorded _ _ (known c.args.memory.now) c.args.disk.now c.args.text.now c.in-Some.record.now c.requires.session.orderly c.requires.allowed (sym c.find.ensures.found ∙ ap option_copied c.in-Some.is)) in
    let is = memory_put (known c.args.memory.now) c.args.disk.now c.args.text.now c.in-Some.record.now c.relabelled-entry.result of c.put.new.self c.relabelled-entry.ensures.is c.in_ok-put.ensures.places in
    let stays = returns-clause-stays g c in
    ap (λ k. shape_in (g.S.Store.site c.sync-2.new.self) (table_alone (g.S.Store.table c.sync-2.new.self)) k) is
    ∙ ap₂ (λ s t. shape_in s t (with_place of.place (relabelled c.args.text.now c.in-Some.record.now) (known c.args.memory.now))) stays.site stays.table
    ∙ shape_labelled _ _ (known c.args.memory.now) c.args.disk.now c.args.text.now of.place c.in-Some.record.now c.requires.session.orderly of.labelled

pub returns-clause-session_still : goal.returns-clause-session_still
returns-clause-session_still g c =
    let r = c.requires.session in
    let of = recorded _ _ (known c.args.memory.now) c.args.disk.now c.args.text.now c.in-Some.record.now r.orderly c.requires.allowed (sym c.find.ensures.found ∙ ap option_copied c.in-Some.is) in
    let is = memory_put (known c.args.memory.now) c.args.disk.now c.args.text.now c.in-Some.record.now c.relabelled-entry.result of c.put.new.self c.relabelled-entry.ensures.is c.in_ok-put.ensures.places in
    let stays = returns-clause-stays g c in
    let e = c.sync.ensures in let f = c.sync-2.ensures in
    record {
      usable = stays.failed ∙ r.usable;
      orderly = subst (λ k. IsOrderly (g.S.Store.site c.sync-2.new.self) (table_alone (g.S.Store.table c.sync-2.new.self)) k) (sym is)
          (subst₂ (λ s t. IsOrderly s t (with_place of.place (relabelled c.args.text.now c.in-Some.record.now) (known c.args.memory.now))) (sym stays.site) (sym stays.table)
          (orderly_labelled _ _ (known c.args.memory.now) c.args.disk.now c.args.text.now of.place c.in-Some.record.now r.orderly of.labelled c.requires.allowed));
      tidy = subst (λ k. IsTidy (table_alone (g.S.Store.table c.sync-2.new.self)) k) (sym is)
          (subst (λ t. IsTidy t (with_place of.place (relabelled c.args.text.now c.in-Some.record.now) (known c.args.memory.now))) (sym stays.table)
          (tidy_labelled _ (known c.args.memory.now) c.args.disk.now c.args.text.now c.in-Some.record.now of r.orderly.places r.tidy));
      true_images = true_recorded g.S.Store c.args.memory.now (record c.args.memory.now { records = c.put.new.self }) refl r.orderly
          (works_then (works_keeps Mgt (stays_from {g = g.S.Store} e.site e.table e.no_less e.counts e.beside) e.keeps)
          (works_then (works_writes c.put.ensures.writes) (works_keeps Mgt (stays_from {g = g.S.Store} f.site f.table f.no_less f.counts f.beside) f.keeps))) r.true_images;
      rows = rows_stays stays r.rows;
      tree_room = r.tree_room;
      attachment_room = r.attachment_room;
    }
