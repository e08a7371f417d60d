use Rattle.std.proofs.Common.{arith}
use Rattle.sm_base.proofs.TextLemmas.{length-uuid_text}
use Rattle.sm_script.proofs.trials.Trial.disk.Goals as goal

pub returns-clause-short : goal.returns-clause-short
returns-clause-short c = rw c.uuid.ensures (omega (arith, length-uuid_text c.disk_numbered.result))
