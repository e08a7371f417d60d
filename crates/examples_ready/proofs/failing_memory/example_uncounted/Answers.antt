use Rattle.examples_ready.proofs.MemoryFails.{uncounted_fails, uncounted_only}
use Rattle.examples_ready.proofs.failing_memory.example_uncounted.Goals as goal

pub returns : goal.returns
returns c = record {
  fails = λ o. uncounted_fails o.counts;
  only = uncounted_only;
}
