use Rattle.std.proofs.Common.{◌≡◌, true, sym, subst, rules}
use Rattle.vg_meta.specs.Roomy.{table_alone}
use Rattle.sm_standing.specs.Opened.{wanted}
use Rattle.sm_ready.specs.Runs.{AllMay}
use Rattle.sm_recover.specs.Steps.{MakesAll}
use Rattle.sm_recover.proofs.StepLaws.{one_all}
use Rattle.sm_recover.proofs.steps.commit_where.Goals as goal

pub returns-in_ok-commit-clause-all : goal.returns-in_ok-commit-clause-all
returns-in_ok-commit-clause-all g c =
    let old = c.args.store.now in
    let is : c.args.is_wanted ≡ true = search rules in
    let may = subst (λ b. AllMay (g.S.Store.site old).count (table_alone (g.S.Store.table old)) (wanted b c.args.change)) is c.requires.allowed in
    let e = c.in_ok-commit.ensures in
    subst (λ b. MakesAll g.S.Store (wanted b c.args.change) old c.commit.new.self) (sym is)
    (one_all c.args.change (record { usable = c.requires.usable; allowed = may.0; room = c.requires.room; fits = may.1 })
    (record { site = e.site; table = e.changed.0; usable = e.changed.1; faults = e.counts; room = e.room_after; beside = e.beside; keeps = e.keeps; settled = e.settled }))
