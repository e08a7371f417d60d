use Rattle.examples_ready.proofs.PlainOrderly.{written_has_shape, written_orderly}
use Rattle.examples_ready.proofs.PlainReady.{written_ready, written_tidy, written_not_quiet}
use Rattle.examples_ready.proofs.working.example_writing.Goals as goal

pub returns : goal.returns
returns c = record {
  shape = written_has_shape;
  orderly = written_orderly;
  ready = written_ready;
  tidy = written_tidy;
  not_quiet = written_not_quiet;
}
