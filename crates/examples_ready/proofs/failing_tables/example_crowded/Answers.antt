use Rattle.examples_ready.proofs.CrowdFails.{crowd_fails, crowd_only}
use Rattle.examples_ready.proofs.failing_tables.example_crowded.Goals as goal

pub returns : goal.returns
returns c = record {
  fails = λ o. crowd_fails o.few;
  only = crowd_only;
}
