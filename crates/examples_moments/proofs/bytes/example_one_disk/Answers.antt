use Rattle.examples_moments.proofs.ForkExample.{unforked_image}
use Rattle.examples_moments.proofs.WorkedDisks.{unforked_disks}
use Rattle.examples_moments.proofs.WorkedSound.{unforked_sound}
use Rattle.examples_moments.proofs.bytes.example_one_disk.Goals as goal

pub returns : goal.returns
returns c = record { image = unforked_image; disks = unforked_disks; sound = unforked_sound }
