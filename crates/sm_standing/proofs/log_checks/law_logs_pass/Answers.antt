use Rattle.sm_standing.proofs.LogPassLaws.{logs_pass}
use Rattle.sm_standing.proofs.log_checks.law_logs_pass.Goals as goal

pub returns : goal.returns
returns c = logs_pass
