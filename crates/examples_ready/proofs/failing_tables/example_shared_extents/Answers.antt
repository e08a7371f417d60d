use Rattle.examples_ready.proofs.TableFails.{shared_fails, shared_only}
use Rattle.examples_ready.proofs.failing_tables.example_shared_extents.Goals as goal

pub returns : goal.returns
returns c = record {
  fails = λ o. shared_fails o.table;
  only = shared_only;
}
