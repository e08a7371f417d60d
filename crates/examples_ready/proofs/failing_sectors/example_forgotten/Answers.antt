use Rattle.examples_ready.proofs.SectorFails.{forgotten_orderly, forgotten_fails, forgotten_only}
use Rattle.examples_ready.proofs.failing_sectors.example_forgotten.Goals as goal

pub returns : goal.returns
returns c = record {
  orderly = forgotten_orderly;
  fails = λ r. forgotten_fails r.firm.images;
  only = forgotten_only;
}
