use Rattle.sm_script.specs.Trials.{disk_numbered}
use Rattle.sm_script.proofs.trials.disk_numbered.Goals as goal

pub returns : goal.returns
unfolding disk_numbered
returns c = c.from_bytes.ensures
