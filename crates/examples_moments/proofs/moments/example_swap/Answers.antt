use Rattle.examples_moments.proofs.SwapExample.{swappable, moment_1, moment_2, moment_3, moment_4, moment_5}
use Rattle.examples_moments.proofs.moments.example_swap.Goals as goal

pub returns : goal.returns
returns c = record {
  before = swappable;
  leaf_renamed = moment_1;
  parent_renamed = moment_2;
  parent_shown = moment_3;
  leaf_removed = moment_4;
  entry_removed = moment_5;
}
