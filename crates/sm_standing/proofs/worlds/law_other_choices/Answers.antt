use Rattle.sm_standing.proofs.WorldLaws.{other_floor, other_pending}
use Rattle.sm_standing.proofs.worlds.law_other_choices.Goals as goal

pub returns-clause-floor : goal.returns-clause-floor
returns-clause-floor c = other_floor

pub returns-clause-pending : goal.returns-clause-pending
returns-clause-pending c = other_pending
