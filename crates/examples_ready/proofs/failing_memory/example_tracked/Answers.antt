use Rattle.examples_ready.proofs.MemoryFails.{tracked_fails, tracked_only}
use Rattle.examples_ready.proofs.failing_memory.example_tracked.Goals as goal

pub returns : goal.returns
returns c = record {
  fails = λ o. tracked_fails o.logs;
  only = tracked_only;
}
