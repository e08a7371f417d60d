use Rattle.examples_ready.proofs.RoomFails.{tight_fails, tight_only}
use Rattle.examples_ready.proofs.failing_memory.example_tight.Goals as goal

pub returns : goal.returns
returns c = record {
  fails = λ o. tight_fails o.roomy;
  only = tight_only;
}
