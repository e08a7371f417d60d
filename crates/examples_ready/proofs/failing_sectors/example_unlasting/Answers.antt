use Rattle.examples_ready.proofs.LogFails.{unlasting_fails, unlasting_only}
use Rattle.examples_ready.proofs.failing_sectors.example_unlasting.Goals as goal

pub returns : goal.returns
returns c = record {
  fails = λ r. unlasting_fails r.logged;
  only = unlasting_only;
}
