use Rattle.sm_log.proofs.LineLaws.{tells_touched}
use Rattle.sm_log.proofs.laws.law_touched.Goals as goal

pub returns : goal.returns
returns g c = tells_touched g.S.Shows.after
