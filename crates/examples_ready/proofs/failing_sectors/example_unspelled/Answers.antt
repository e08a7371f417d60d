use Rattle.examples_ready.proofs.LogFails.{unspelled_fails, unspelled_only}
use Rattle.examples_ready.proofs.failing_sectors.example_unspelled.Goals as goal

pub returns : goal.returns
returns c = record {
  fails = λ r. unspelled_fails r.logs;
  only = unspelled_only;
}
