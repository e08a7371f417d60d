use Rattle.examples_ready.proofs.TableFails.{twin_fails, twin_only}
use Rattle.examples_ready.proofs.failing_tables.example_twin.Goals as goal

pub returns : goal.returns
returns c = record {
  fails = λ o. twin_fails o.new_named;
  only = twin_only;
}
