use Rattle.examples_moments.proofs.VolumeExample.{same_volume, same_elsewhere}
use Rattle.examples_moments.proofs.volumes.example_same_volume.Goals as goal

pub returns : goal.returns
returns c = record { base = same_volume; others = same_elsewhere }
