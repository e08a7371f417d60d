use Rattle.sm_log.proofs.WalkLaws.{changed_covers, changed_long}
use Rattle.sm_log.proofs.laws.law_changed.Goals as goal

pub returns : goal.returns
returns g c = record { covers = changed_covers g.S.Shows.after; long = changed_long }
