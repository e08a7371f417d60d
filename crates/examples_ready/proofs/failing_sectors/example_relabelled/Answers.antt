use Rattle.examples_ready.proofs.SectorFails.{relabelled_orderly, relabelled_fails, relabelled_only}
use Rattle.examples_ready.proofs.failing_sectors.example_relabelled.Goals as goal

pub returns : goal.returns
returns c = record {
  orderly = relabelled_orderly;
  fails = λ r. relabelled_fails r.records;
  only = relabelled_only;
}
