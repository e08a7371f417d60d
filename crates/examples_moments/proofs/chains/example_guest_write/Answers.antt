use Rattle.examples_moments.proofs.ChainExample.{guest_no_parent, guest_others, guest_before, guest_after}
use Rattle.examples_moments.proofs.chains.example_guest_write.Goals as goal

pub returns : goal.returns
returns c = record {
  no_parent = guest_no_parent;
  others = guest_others;
  before = guest_before;
  after = guest_after;
}
