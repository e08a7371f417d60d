use Rattle.examples_moments.proofs.ForkExample.{forkable, moment_1, moment_2, moment_3, moment_4, moment_5, moment_6, moment_7, ended}
use Rattle.examples_moments.proofs.moments.example_fork.Goals as goal

pub returns : goal.returns
returns c = record {
  before = forkable;
  entry_made = moment_1;
  renamed = moment_2;
  base_hidden = moment_3;
  disk_made = moment_4;
  twin_made = moment_5;
  disk_filled = moment_6;
  twin_filled = moment_7;
  entry_removed = ended;
}
