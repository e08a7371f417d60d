use Rattle.examples_ready.proofs.LinkOrderly.{link_orderly}
use Rattle.examples_ready.proofs.SectorFails.{unheld_fails, unheld_only}
use Rattle.examples_ready.proofs.failing_sectors.example_unheld.Goals as goal

pub returns : goal.returns
returns c = record {
  orderly = link_orderly;
  fails = λ r. unheld_fails r.firm.below;
  only = unheld_only;
}
