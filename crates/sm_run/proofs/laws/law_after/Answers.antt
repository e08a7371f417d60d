use Rattle.sm_run.proofs.Growth.{after}
use Rattle.sm_run.proofs.laws.law_after.Goals as goal

pub returns : goal.returns
returns g c = λ σ turns t ds. after σ turns t (g.M.Steps.leaves c.args.before.now) ds
