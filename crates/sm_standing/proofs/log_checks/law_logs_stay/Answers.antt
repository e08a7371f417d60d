use Rattle.sm_standing.proofs.LogPassLaws.{logs_stay, passes_still}
use Rattle.sm_standing.proofs.log_checks.law_logs_stay.Goals as goal

pub returns : goal.returns
returns c = λ was now table_was table_now extent has shown sound_was sound_now none.
    (passes_still was now table_was table_now extent has shown sound_was sound_now none, logs_stay was now table_was table_now extent has shown sound_was sound_now)
