use Rattle.examples_ready.proofs.SectorFails.{uncopied_fails, uncopied_only}
use Rattle.examples_ready.proofs.failing_sectors.example_uncopied.Goals as goal

pub returns : goal.returns
returns c = record {
  fails = λ r. uncopied_fails r.firm.below;
  only = uncopied_only;
}
