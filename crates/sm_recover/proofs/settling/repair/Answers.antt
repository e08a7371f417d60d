use Rattle.std.proofs.Common.{refl, sym, ◌∙◌, subst₂}
use Rattle.sm_disk.proofs.HeldLaws.{Keeps-then}
use Rattle.vg_meta.specs.Roomy.{table_alone}
use Rattle.sm_ready.specs.Known.{known}
use Rattle.sm_ready.specs.Orderly.{IsOrderly}
use Rattle.sm_ready.proofs.AgainLaws.{again_then, freed_from, right_as, stop_then, tidy_freed}
use Rattle.sm_ready.proofs.CleanLaws.{few_at}
use Rattle.sm_ready.proofs.NewVolumeLaws.{none_at}
use Rattle.sm_ready.proofs.RowRoomLaws.{rows_same}
use Rattle.sm_recover.proofs.TrueLaws.{true_cleaned, true_wiped}
use Rattle.sm_ready.proofs.StrayLaws.{orderly_freed, with_places}
use Rattle.sm_recover.proofs.settling.repair.Goals as goal

pub returns-in_err-remove_new-clause-crash : goal.returns-in_err-remove_new-clause-crash
returns-in_err-remove_new-clause-crash g c = c.remove_new.ensures.crash (known c.args.memory.now)

pub returns-in_err-tidy_records-clause-beside : goal.returns-in_err-tidy_records-clause-beside
returns-in_err-tidy_records-clause-beside g c = λ told. Keeps-then (c.remove_new.ensures.beside told) (c.tidy_records.ensures.works.stays.beside told)

pub returns-in_err-tidy_records-clause-few : goal.returns-in_err-tidy_records-clause-few
returns-in_err-tidy_records-clause-few g c = few_at (table_alone (g.S.Store.table c.args.store.now)) c.tidy_records.ensures.works.stays.table c.remove_new.ensures.few

pub returns-in_err-tidy_records-clause-few_left : goal.returns-in_err-tidy_records-clause-few_left
returns-in_err-tidy_records-clause-few_left g c = λ told t image leaves.
    let stays = c.tidy_records.ensures.works.stays in
    let stop = g.met.S.Store.leaves_now c.tidy_records.new.store told (stays.failed ∙ c.in_ok-remove_new.ensures.usable_still) t image leaves in
    few_at (table_alone (g.S.Store.table c.args.store.now)) (stop.table_is ∙ stays.table) c.remove_new.ensures.few

pub returns-in_err-tidy_records-clause-crash : goal.returns-in_err-tidy_records-clause-crash
returns-in_err-tidy_records-clause-crash g c = λ told t image leaves r.
    let m = known c.args.memory.now in
    stop_then c.remove_new.ensures.site (c.in_ok-remove_new.ensures.rest told m) r (c.tidy_records.ensures.crash m told t image leaves)

pub returns-clause-beside : goal.returns-clause-beside
returns-clause-beside g c = λ told. Keeps-then (c.remove_new.ensures.beside told) (c.tidy_records.ensures.works.stays.beside told)

pub returns-clause-room : goal.returns-clause-room
returns-clause-room g c = λ had. rows_same _ _ c.tidy_records.ensures.works.stays.table c.tidy_records.ensures.works.stays.room (c.in_ok-remove_new.ensures.room had)

pub returns-clause-cleaned : goal.returns-clause-cleaned
returns-clause-cleaned g c = c.tidy_records.ensures.works.stays.table ∙ c.in_ok-remove_new.ensures.cleaned

pub returns-clause-few : goal.returns-clause-few
returns-clause-few g c = few_at (table_alone (g.S.Store.table c.args.store.now)) c.tidy_records.ensures.works.stays.table c.remove_new.ensures.few

pub returns-clause-few_left : goal.returns-clause-few_left
returns-clause-few_left g c = λ told t image leaves.
    let stays = c.tidy_records.ensures.works.stays in
    let stop = g.met.S.Store.leaves_now c.tidy_records.new.store told (stays.failed ∙ c.in_ok-remove_new.ensures.usable_still) t image leaves in
    few_at (table_alone (g.S.Store.table c.args.store.now)) (stop.table_is ∙ stays.table) c.remove_new.ensures.few

pub returns-clause-orderly : goal.returns-clause-orderly
returns-clause-orderly g c =
    let stays = c.tidy_records.ensures.works.stays in
    let o = c.in_ok-remove_new.ensures.orderly (known c.args.memory.now) c.requires.orderly in
    subst₂ (λ s t. IsOrderly s t (with_places c.tidy_records.new.mgt (known c.args.memory.now))) (sym stays.site) (sym stays.table)
    (orderly_freed _ _ (known c.args.memory.now) c.tidy_records.new.mgt o (freed_from c.tidy_records.new.mgt o c.in_ok-tidy_records.ensures.freed))

pub returns-clause-tidy : goal.returns-clause-tidy
returns-clause-tidy g c =
    let table = c.tidy_records.ensures.works.stays.table in
    tidy_freed _ _ _ (returns-clause-orderly g c) (none_at (sym table) c.in_ok-remove_new.ensures.none_new) (right_as c.tidy_records.new.mgt table c.in_ok-tidy_records.ensures.right)

pub returns-clause-rest : goal.returns-clause-rest
returns-clause-rest g c = λ told. again_then (c.in_ok-remove_new.ensures.rest told (known c.args.memory.now)) (c.in_ok-tidy_records.ensures.rest told (known c.args.memory.now))

pub returns-clause-crash : goal.returns-clause-crash
returns-clause-crash g c = λ told t image leaves r.
    let m = known c.args.memory.now in
    stop_then c.remove_new.ensures.site (c.in_ok-remove_new.ensures.rest told m) r (c.tidy_records.ensures.crash m told t image leaves)

pub returns-clause-true_images : goal.returns-clause-true_images
returns-clause-true_images g c = λ was.
    let e = c.in_ok-remove_new.ensures in
    let m = c.args.memory.now in
    true_wiped g.S.Store m c.tidy_records.ensures.works.stays.site (e.orderly (known m) c.requires.orderly) (record m { records = c.tidy_records.new.mgt }) refl c.tidy_records.ensures.works
    (true_cleaned g.S.Store m e.site c.requires.orderly e.cleaned e.keeps was)
