use Rattle.sm_standing.proofs.LogLaws.{first_wrong, right_logs, wrong_first}
use Rattle.sm_standing.proofs.logs.law_log_fault.Goals as goal

pub returns-clause-right : goal.returns-clause-right
returns-clause-right c = right_logs

pub returns-clause-named : goal.returns-clause-named
returns-clause-named c = λ x p table. first_wrong x table p

pub returns-clause-wrong : goal.returns-clause-wrong
returns-clause-wrong c = λ x u table. wrong_first x table u
