use Rattle.examples_ready.proofs.TableFails.{begun_orderly, begun_fails, begun_only}
use Rattle.examples_ready.proofs.failing_tables.example_begun.Goals as goal

pub returns : goal.returns
returns c = record {
  orderly = begun_orderly;
  fails = λ o. begun_fails o.none_new;
  only = begun_only;
}
