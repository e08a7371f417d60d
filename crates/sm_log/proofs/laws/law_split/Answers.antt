use Rattle.sm_log.proofs.LineLaws.{tells_split}
use Rattle.sm_log.proofs.laws.law_split.Goals as goal

pub returns : goal.returns
returns g c = tells_split g.S.Shows.after
