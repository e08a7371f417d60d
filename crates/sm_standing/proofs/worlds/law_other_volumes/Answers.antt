use Rattle.sm_standing.proofs.WorldLaws.{other_sectors}
use Rattle.sm_standing.proofs.worlds.law_other_volumes.Goals as goal

pub returns : goal.returns
returns c = other_sectors
