use Rattle.examples_ready.proofs.MemoryFails.{high_fails, high_only}
use Rattle.examples_ready.proofs.failing_memory.example_high_slot.Goals as goal

pub returns : goal.returns
returns c = record {
  fails = λ o. high_fails o.stands;
  only = high_only;
}
