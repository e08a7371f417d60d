use Rattle.examples_moments.proofs.RaisedExample.{raised, small_size, large_size, small_parent, base_image, base_size, kept, zeros_behind, not_over_a_larger}
use Rattle.examples_moments.proofs.changes.example_raised.Goals as goal

pub returns : goal.returns
returns c = record {
  raised = raised;
  old_size = small_size;
  new_size = large_size;
  parent = small_parent;
  below = base_image;
  below_size = base_size;
  kept = kept;
  zeros = zeros_behind;
  not_over_a_larger = not_over_a_larger;
}
