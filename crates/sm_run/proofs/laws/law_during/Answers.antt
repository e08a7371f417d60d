use Rattle.sm_run.proofs.Growth.{during}
use Rattle.sm_run.proofs.laws.law_during.Goals as goal

pub returns : goal.returns
returns g c = λ σ turns t ds. during σ turns t (g.M.Steps.leaves c.args.before.now) ds
