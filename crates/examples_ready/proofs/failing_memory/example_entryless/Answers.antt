use Rattle.examples_ready.proofs.MemoryFails.{entryless_fails, entryless_only}
use Rattle.examples_ready.proofs.failing_memory.example_entryless.Goals as goal

pub returns : goal.returns
returns c = record {
  fails = λ o. entryless_fails o.entries;
  only = entryless_only;
}
