use Rattle.std.proofs.Common.{arith}
use Rattle.sm_machine.specs.Replies.{hex_text}
use Rattle.sm_script.proofs.trials.Trial.byte.Goals as goal

pub returns-clause-short : goal.returns-clause-short
unfolding hex_text
returns-clause-short c = rw c.hex.ensures (omega arith)
