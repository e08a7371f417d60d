use Rattle.sm_standing.proofs.TurnLaws.{image_renamed}
use Rattle.sm_standing.proofs.chains.law_rename.Goals as goal

pub returns : goal.returns
returns c = image_renamed
