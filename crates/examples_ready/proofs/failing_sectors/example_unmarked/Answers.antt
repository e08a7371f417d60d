use Rattle.std.proofs.Common.{[]}
use Rattle.examples_ready.proofs.LiveOrderly.{live_orderly}
use Rattle.examples_ready.proofs.LiveReady.{unmarked_fails, unmarked_only}
use Rattle.examples_ready.proofs.failing_sectors.example_unmarked.Goals as goal

pub returns : goal.returns
returns c = record {
  orderly = live_orderly [] (λ b none. absurd none);
  fails = λ r. unmarked_fails r.firm.below;
  only = unmarked_only;
}
