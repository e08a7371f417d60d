use Rattle.examples_ready.proofs.TableFails.{short_fails, short_only}
use Rattle.examples_ready.proofs.failing_tables.example_short_records.Goals as goal

pub returns : goal.returns
returns c = record {
  fails = λ o. short_fails o.record_volume;
  only = short_only;
}
