use Rattle.sm_machine.proofs.Refused.{refused_keeps}
use Rattle.sm_machine.proofs.laws.refused_step_keeps.Goals as goal

pub returns : goal.returns
returns c = refused_keeps
