use Rattle.examples_moments.proofs.ForkMomentExample.{volumes_entry_made, volumes_renamed, volumes_made, volumes_filled}
use Rattle.examples_moments.proofs.WorkedSound.{unforked_sound}
use Rattle.examples_moments.proofs.moments.example_fork_volumes.Goals as goal

pub returns : goal.returns
returns c = record {
  before = unforked_sound;
  entry_made = volumes_entry_made;
  renamed = volumes_renamed;
  made = volumes_made;
  filled = volumes_filled;
}
