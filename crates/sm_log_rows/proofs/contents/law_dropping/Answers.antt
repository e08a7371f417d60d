use Rattle.sm_log_rows.proofs.ContentLaws.{logs_then, pass_then}
use Rattle.sm_log_rows.proofs.contents.law_dropping.Goals as goal

pub returns : goal.returns
returns c = record {
  logs = λ x u table less d. logs_then x u table less d;
  pass = λ x u table less d. pass_then x u table less d;
}
