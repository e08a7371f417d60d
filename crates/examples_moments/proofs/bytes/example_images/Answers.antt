use Rattle.examples_moments.proofs.WorkedDisks.{fresh_there, written_there}
use Rattle.examples_moments.proofs.bytes.example_images.Goals as goal

pub returns : goal.returns
returns c = record { fresh = fresh_there; written = written_there }
