use Rattle.examples_moments.proofs.ChainExample.{relink_before, relink_after, relink_others, relink_past, relink_two}
use Rattle.examples_moments.proofs.chains.example_relink.Goals as goal

pub returns : goal.returns
returns c = record {
  before = relink_before;
  after = relink_after;
  others = relink_others;
  past = relink_past;
  two = relink_two;
}
