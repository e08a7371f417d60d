use Rattle.examples_moments.proofs.RemovedExample.{hidden_image, removed, disks_before, disks_after, not_while_a_parent}
use Rattle.examples_moments.proofs.changes.example_removed.Goals as goal

pub returns : goal.returns
returns c = record {
  image = hidden_image;
  removed = removed;
  disks_before = disks_before;
  disks_after = disks_after;
  not_while_a_parent = not_while_a_parent;
}
