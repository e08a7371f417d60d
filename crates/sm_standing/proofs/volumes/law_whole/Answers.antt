use Rattle.sm_standing.proofs.ImageSectors.{whole_none, whole_fork}
use Rattle.sm_standing.proofs.volumes.law_whole.Goals as goal

pub returns : goal.returns
returns c = record { none = whole_none; fork = whole_fork }
