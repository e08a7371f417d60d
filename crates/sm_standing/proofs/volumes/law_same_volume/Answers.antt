use Rattle.sm_standing.proofs.ImageSectors.{vhd_same, raw_same}
use Rattle.sm_standing.proofs.volumes.law_same_volume.Goals as goal

pub returns : goal.returns
returns c = record { vhd = vhd_same; raw = raw_same }
