use Rattle.examples_moments.proofs.ForkExample.{child_empty}
use Rattle.examples_moments.proofs.SwapExample.{filled_parent, held_alike}
use Rattle.examples_moments.proofs.WorkedDisks.{top_held, top_behind, child_parent_is, child_size_is}
use Rattle.examples_moments.proofs.WorkedLaws.{top_size, top_parent}
use Rattle.examples_moments.proofs.bytes.example_saying.Goals as goal

pub returns : goal.returns
returns c = record {
  size = top_size;
  no_parent = top_parent;
  held = top_held;
  others = top_behind;
  child_size = child_size_is;
  child_parent = child_parent_is;
  child_empty = child_empty;
  filled_parent = filled_parent;
  filled_alike = held_alike;
}
