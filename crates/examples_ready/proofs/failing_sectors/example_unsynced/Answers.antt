use Rattle.examples_ready.proofs.SectorFails.{unsynced_fails, unsynced_only}
use Rattle.examples_ready.proofs.failing_sectors.example_unsynced.Goals as goal

pub returns : goal.returns
returns c = record {
  fails = λ r. unsynced_fails r.recorded;
  only = unsynced_only;
}
