use Rattle.sm_standing.proofs.WorldLaws.{commit_before, commit_after}
use Rattle.sm_standing.proofs.worlds.law_commit.Goals as goal

pub returns-clause-before : goal.returns-clause-before
returns-clause-before c = commit_before

pub returns-clause-after : goal.returns-clause-after
returns-clause-after c = commit_after
