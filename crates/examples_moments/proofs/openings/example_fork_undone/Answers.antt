use Rattle.examples_moments.proofs.LeftShapes.{opened_1, opened_2, opened_3, opened_4, opened_5, opened_6, opened_7}
use Rattle.examples_moments.proofs.OpenedLaws.{unforked_shape}
use Rattle.examples_moments.proofs.openings.example_fork_undone.Goals as goal

pub returns : goal.returns
returns c = record {
  before = unforked_shape;
  entry_made = opened_1;
  renamed = opened_2;
  base_hidden = opened_3;
  disk_made = opened_4;
  twin_made = opened_5;
  disk_filled = opened_6;
  twin_filled = opened_7;
}
