use Rattle.examples_moments.proofs.ChainExample.{copy_only, copy_held, copy_others, copy_before, copy_after}
use Rattle.examples_moments.proofs.chains.example_copy_below.Goals as goal

pub returns : goal.returns
returns c = record {
  only = copy_only;
  held = copy_held;
  others = copy_others;
  before = copy_before;
  after = copy_after;
}
