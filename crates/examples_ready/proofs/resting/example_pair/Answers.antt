use Rattle.examples_ready.proofs.PairOrderly.{pair_has_shape, pair_orderly}
use Rattle.examples_ready.proofs.PairReady.{pair_ready, pair_tidy}
use Rattle.examples_ready.proofs.resting.example_pair.Goals as goal

pub returns : goal.returns
returns c = record {
  shape = pair_has_shape;
  orderly = pair_orderly;
  ready = pair_ready;
  tidy = pair_tidy;
}
