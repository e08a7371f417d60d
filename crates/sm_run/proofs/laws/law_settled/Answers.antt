use Rattle.sm_run.proofs.Growth.{settled}
use Rattle.sm_run.proofs.laws.law_settled.Goals as goal

pub returns : goal.returns
returns c = settled
