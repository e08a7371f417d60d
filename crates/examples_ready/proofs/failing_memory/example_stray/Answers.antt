use Rattle.examples_ready.proofs.MemoryFails.{stray_orderly, stray_fails, stray_only}
use Rattle.examples_ready.proofs.failing_memory.example_stray.Goals as goal

pub returns : goal.returns
returns c = record {
  orderly = stray_orderly;
  fails = λ o. stray_fails o.no_stray;
  only = stray_only;
}
