use Rattle.examples_ready.proofs.SectorFails.{loose_fails, loose_only}
use Rattle.examples_ready.proofs.failing_sectors.example_loose.Goals as goal

pub returns : goal.returns
returns c = record {
  fails = λ r. loose_fails r.firm.quiet;
  only = loose_only;
}
