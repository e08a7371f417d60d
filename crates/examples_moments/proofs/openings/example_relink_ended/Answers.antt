use Rattle.examples_moments.proofs.RelinkLeft.{relink_opened}
use Rattle.examples_moments.proofs.openings.example_relink_ended.Goals as goal

pub returns : goal.returns
returns c = relink_opened
