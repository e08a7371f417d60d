use Rattle.examples_ready.proofs.PlainOrderly.{plain_has_shape, plain_orderly}
use Rattle.examples_ready.proofs.PlainReady.{plain_ready, plain_tidy}
use Rattle.examples_ready.proofs.resting.example_plain.Goals as goal

pub returns : goal.returns
returns c = record {
  shape = plain_has_shape;
  orderly = plain_orderly;
  ready = plain_ready;
  tidy = plain_tidy;
}
