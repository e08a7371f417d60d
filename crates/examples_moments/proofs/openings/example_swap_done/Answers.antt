use Rattle.examples_moments.proofs.LeftShapes.{swap_opened_1, swap_opened_2, swap_opened_3, swap_opened_4, swap_opened_5}
use Rattle.examples_moments.proofs.OpenedLaws.{swap_disks_0, swap_disks_5}
use Rattle.examples_moments.proofs.openings.example_swap_done.Goals as goal

pub returns : goal.returns
returns c = record {
  leaf_renamed = swap_opened_1;
  parent_renamed = swap_opened_2;
  parent_shown = swap_opened_3;
  leaf_removed = swap_opened_4;
  entry_removed = swap_opened_5;
  disks_before = swap_disks_0;
  disks_after = swap_disks_5;
}
