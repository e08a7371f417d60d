use Rattle.examples_ready.proofs.MemoryFails.{unrecorded_fails, unrecorded_only}
use Rattle.examples_ready.proofs.failing_memory.example_unrecorded.Goals as goal

pub returns : goal.returns
returns c = record {
  fails = λ o. unrecorded_fails o.well_formed;
  only = unrecorded_only;
}
