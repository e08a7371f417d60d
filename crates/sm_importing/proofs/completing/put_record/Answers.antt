use Rattle.std.proofs.Common.{[], ◌∷◌, ◌∙◌}
use Rattle.vg_volumes.proofs.StoredLaws.{did_in, stays_none}
use Rattle.vg_meta.specs.Roomy.{table_alone}
use Rattle.sm_mgt.proofs.ClearLaws.{on_err}
use Rattle.sm_calls.specs.Calls.{Settle, Work}
use Rattle.sm_calls.proofs.StoreLaws.{run_front, run_then, run_works}
use Rattle.sm_importing.specs.Endings.{HasPut, MayPut, place_of}
use Rattle.sm_importing.proofs.completing.put_record.Goals as goal

pub returns-in_err-put-clause-cut : goal.returns-in_err-put-clause-cut
returns-in_err-put-clause-cut g c =
    let a = c.args.store.now in
    let s = g.S.Store.site a in
    let t = table_alone (g.S.Store.table a) in
    let k = place_of c.args.memory.now c.args.entry in
    let w = c.put.ensures.writes in
    on_err _ (run_front (Work (MayPut s t k c.args.entry) (HasPut s t k c.args.entry) ∷ []) (Settle ∷ [])
    (run_works {ok = ⊥} c.requires.usable w.stays (λ told. record { beside = w.beside told; torn = did_in (stays_none a) w told }) (λ x. absurd x)
    (λ told. g.met.S.Store.leaves_now c.put.new.store told (w.stays.failed ∙ c.requires.usable))))

pub returns-in_err-sync-clause-cut : goal.returns-in_err-sync-clause-cut
returns-in_err-sync-clause-cut g c =
    let a = c.args.store.now in
    let s = g.S.Store.site a in
    let t = table_alone (g.S.Store.table a) in
    let k = place_of c.args.memory.now c.args.entry in
    let w = c.put.ensures.writes in
    let d = c.in_ok-put.ensures.wrote in
    let one : Unit {0} = tt in
    on_err _ (run_then (Work (MayPut s t k c.args.entry) (HasPut s t k c.args.entry) ∷ []) (Settle ∷ []) one
    (run_works {ok = Unit {0}} c.requires.usable w.stays (λ told. record { beside = w.beside told; torn = did_in (stays_none a) w told }) (λ ok told. did_in (stays_none a) d told)
    (λ told. g.met.S.Store.leaves_now c.put.new.store told (w.stays.failed ∙ c.requires.usable))) c.in_err-sync.ensures.cut)

pub returns-clause-run : goal.returns-clause-run
returns-clause-run g c =
    let a = c.args.store.now in
    let s = g.S.Store.site a in
    let t = table_alone (g.S.Store.table a) in
    let k = place_of c.args.memory.now c.args.entry in
    let w = c.put.ensures.writes in
    let d = c.in_ok-put.ensures.wrote in
    let one : Unit {0} = tt in
    run_then (Work (MayPut s t k c.args.entry) (HasPut s t k c.args.entry) ∷ []) (Settle ∷ []) one
    (run_works {ok = Unit {0}} c.requires.usable w.stays (λ told. record { beside = w.beside told; torn = did_in (stays_none a) w told }) (λ ok told. did_in (stays_none a) d told)
    (λ told. g.met.S.Store.leaves_now c.put.new.store told (w.stays.failed ∙ c.requires.usable))) c.in_ok-sync.ensures.run
