use Rattle.std.proofs.Common.{◌∙◌}
use Rattle.vg_volumes.proofs.StoredLaws.{stays_from, works_keeps, works_then, works_writes}
use Rattle.sm_base.specs.declared.names.Name.TheVariants.{Mgt}
use Rattle.vg_meta.specs.Roomy.{table_alone}
use Rattle.sm_checks.proofs.TableLaws.{records_room}
use Rattle.sm_ready.proofs.AgainLaws.{again_wiped, stop_wiped}
use Rattle.sm_recover.proofs.settling.tidy_records.Goals as goal

pub wipe_strays-requires-clause-size : goal.wipe_strays-requires-clause-size
wipe_strays-requires-clause-size g c = records_room (g.S.Store.site c.args.store.now) (table_alone (g.S.Store.table c.args.store.now)) c.requires.checked.record_volume

pub returns-in_err-wipe_strays-clause-crash : goal.returns-in_err-wipe_strays-clause-crash
returns-in_err-wipe_strays-clause-crash g c = λ m told t image leaves.
    let w = c.wipe_strays.ensures.writes in
    stop_wiped (record m { places = c.args.mgt.now }) w told (g.met.S.Store.leaves_now c.wipe_strays.new.store told (w.stays.failed ∙ c.requires.usable) t image leaves)

pub returns-in_err-sync-clause-works : goal.returns-in_err-sync-clause-works
returns-in_err-sync-clause-works g c =
    let e = c.sync.ensures in
    works_then (works_writes c.wipe_strays.ensures.writes) (works_keeps Mgt (stays_from {g = g.S.Store} e.site e.table e.no_less e.counts e.beside) e.keeps)

pub returns-in_err-sync-clause-crash : goal.returns-in_err-sync-clause-crash
returns-in_err-sync-clause-crash g c = λ m told t image leaves.
    let w = c.wipe_strays.ensures.writes in
    stop_wiped (record m { places = c.args.mgt.now }) w told
    (g.met.S.Store.leaves_now c.wipe_strays.new.store told (w.stays.failed ∙ c.requires.usable) t image (c.sync.ensures.leaves told t image leaves))

pub returns-clause-works : goal.returns-clause-works
returns-clause-works g c =
    let e = c.sync.ensures in
    works_then (works_writes c.wipe_strays.ensures.writes) (works_keeps Mgt (stays_from {g = g.S.Store} e.site e.table e.no_less e.counts e.beside) e.keeps)

pub returns-clause-rest : goal.returns-clause-rest
returns-clause-rest g c = λ told m.
    let e = c.sync.ensures in
    again_wiped (record m { places = c.args.mgt.now }) c.wipe_strays.new.mgt c.wipe_strays.ensures.writes (stays_from {g = g.S.Store} e.site e.table e.no_less e.counts e.beside) told (e.keeps told)
    (c.in_ok-sync.ensures.settled told) c.in_ok-wipe_strays.ensures.freed (c.in_ok-wipe_strays.ensures.agrees told)

pub returns-clause-crash : goal.returns-clause-crash
returns-clause-crash g c = λ m told t image leaves.
    let w = c.wipe_strays.ensures.writes in
    stop_wiped (record m { places = c.args.mgt.now }) w told
    (g.met.S.Store.leaves_now c.wipe_strays.new.store told (w.stays.failed ∙ c.requires.usable) t image (c.sync.ensures.leaves told t image leaves))

pub returns-in_err-wipe_strays-clause-works : goal.returns-in_err-wipe_strays-clause-works
returns-in_err-wipe_strays-clause-works g c = works_writes c.wipe_strays.ensures.writes
