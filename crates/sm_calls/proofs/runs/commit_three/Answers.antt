use Rattle.std.proofs.Common.{[], ◌∷◌}
use Rattle.sm_mgt.proofs.ClearLaws.{on_err}
use Rattle.sm_calls.specs.Calls.{Commit}
use Rattle.sm_calls.proofs.StoreLaws.{can_commit, can_next, run_front, run_then}
use Rattle.sm_calls.proofs.runs.commit_three.Goals as goal

pub commit-requires : goal.commit-requires
commit-requires g c = can_commit c.requires

pub returns-in_err-commit-clause-cut : goal.returns-in_err-commit-clause-cut
returns-in_err-commit-clause-cut g c = on_err _ (run_front (Commit c.args.first ∷ []) (Commit c.args.second ∷ Commit c.args.third ∷ []) c.in_err-commit.ensures.cut)

pub commit_two-requires : goal.commit_two-requires
commit_two-requires g c = can_next (Commit c.args.first ∷ []) (Commit c.args.second ∷ Commit c.args.third ∷ []) tt c.requires c.in_ok-commit.ensures.run

pub returns-in_err-commit_two-clause-cut : goal.returns-in_err-commit_two-clause-cut
returns-in_err-commit_two-clause-cut g c =
    on_err _ (run_then (Commit c.args.first ∷ []) (Commit c.args.second ∷ Commit c.args.third ∷ []) tt c.in_ok-commit.ensures.run c.in_err-commit_two.ensures.cut)

pub returns-clause-run : goal.returns-clause-run
returns-clause-run g c =
    run_then (Commit c.args.first ∷ []) (Commit c.args.second ∷ Commit c.args.third ∷ []) tt c.in_ok-commit.ensures.run c.in_ok-commit_two.ensures.run
