use Rattle.sm_standing.proofs.LogLaws.{all_logged, log_listed}
use Rattle.sm_standing.proofs.logs.law_logs.Goals as goal

pub returns-clause-listed : goal.returns-clause-listed
returns-clause-listed c = log_listed

pub returns-clause-logged : goal.returns-clause-logged
returns-clause-logged c = all_logged
