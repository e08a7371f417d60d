use Rattle.sm_standing.proofs.WalkLaws.{depth_renamed, depth_linked}
use Rattle.sm_standing.proofs.images.law_chain_kept.Goals as goal

pub returns-clause-renamed : goal.returns-clause-renamed
returns-clause-renamed c = depth_renamed

pub returns-clause-relinked : goal.returns-clause-relinked
returns-clause-relinked c = depth_linked
