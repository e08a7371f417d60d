use Rattle.sm_log_reading.proofs.FaultLaws.{read_passing, read_wrong}
use Rattle.sm_log_reading.proofs.laws.law_logs_read.Goals as goal

pub returns-clause-pass : goal.returns-clause-pass
returns-clause-pass c = λ x ds table a fine. read_passing x table ds a fine

pub returns-clause-wrong : goal.returns-clause-wrong
returns-clause-wrong c = λ x ds u table a fault. read_wrong x table ds a u fault
