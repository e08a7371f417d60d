use Rattle.sm_standing.proofs.LogPassLaws.{pass_by, pass_by_disks, right_at, tags_apart}
use Rattle.sm_standing.proofs.log_checks.law_right_logs.Goals as goal

pub returns-clause-pass : goal.returns-clause-pass
returns-clause-pass c = λ x each one_tag. pass_by x one_tag each

pub returns-clause-disks : goal.returns-clause-disks
returns-clause-disks c = λ x sound each one_tag. pass_by_disks x one_tag sound each

pub returns-clause-right : goal.returns-clause-right
returns-clause-right c = right_at

pub returns-clause-one_tag : goal.returns-clause-one_tag
returns-clause-one_tag c = tags_apart
