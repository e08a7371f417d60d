use Rattle.vg_volumes.proofs.StoredLaws.{stays_from}
use Rattle.std.proofs.Common.{◌∙◌}
use Rattle.sm_mgt.proofs.ClearLaws.{on_err}
use Rattle.sm_calls.proofs.StoreLaws.{run_settles}
use Rattle.sm_calls.proofs.calls.sync.Goals as goal

pub returns-in_err-sync-clause-cut : goal.returns-in_err-sync-clause-cut
returns-in_err-sync-clause-cut g c =
    let e = c.in_err-sync.ensures in
    on_err _ (run_settles c.requires (stays_from e.site e.table e.no_less e.counts e.beside) e.keeps (λ never. absurd never)
    (λ told. g.met.S.Store.leaves_now c.sync.new.self told (e.table.1 ∙ c.requires)))

pub returns-clause-run : goal.returns-clause-run
returns-clause-run g c =
    let e = c.in_ok-sync.ensures in
    run_settles c.requires (stays_from e.site e.table e.no_less e.counts e.beside) e.keeps (λ fine. e.settled)
    (λ told. g.met.S.Store.leaves_now c.sync.new.self told (e.table.1 ∙ c.requires))
