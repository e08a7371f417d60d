use Rattle.examples_ready.proofs.TableFails.{hidden_fails, hidden_only}
use Rattle.examples_ready.proofs.failing_tables.example_hidden.Goals as goal

pub returns : goal.returns
returns c = record {
  fails = λ o. hidden_fails o.images;
  only = hidden_only;
}
