use Rattle.sm_reached.proofs.BackLaws.{back_is_not_told}
use Rattle.sm_reached.proofs.ReachedLaws.{changed_is_reached}
use Rattle.sm_reached.proofs.laws.changed_is_reached.Goals as goal

pub returns : goal.returns
returns c = record { reached = changed_is_reached; back = back_is_not_told }
