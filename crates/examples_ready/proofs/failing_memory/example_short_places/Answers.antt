use Rattle.examples_ready.proofs.MemoryFails.{short_fails, short_only}
use Rattle.examples_ready.proofs.failing_memory.example_short_places.Goals as goal

pub returns : goal.returns
returns c = record {
  fails = λ o. short_fails o.places;
  only = short_only;
}
