use Rattle.sm_mgt.proofs.ClearLaws.{on_err}
use Rattle.sm_calls.proofs.StoreLaws.{run_commits, run_fails}
use Rattle.sm_calls.proofs.calls.commit.Goals as goal

pub returns-in_err-commit-clause-cut : goal.returns-in_err-commit-clause-cut
returns-in_err-commit-clause-cut g c =
    let e = c.in_err-commit.ensures in
    on_err _ (run_fails
    (record { site = e.site; table = e.unchanged.0; stuck = e.unchanged.1; fault = e.cause.0; faults = e.counts; beside = e.beside; keeps = e.keeps }) e.crash)

pub returns-clause-run : goal.returns-clause-run
returns-clause-run g c =
    let e = c.in_ok-commit.ensures in
    run_commits (record { usable = c.requires.usable; allowed = c.requires.allowed; room = c.requires.room; fits = c.requires.fits })
    (record { site = e.site; table = e.changed.0; usable = e.changed.1; faults = e.counts; room = e.room_after; beside = e.beside; keeps = e.keeps; settled = e.settled }) e.crash
