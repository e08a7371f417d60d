use Rattle.sm_machine.proofs.Debts.{step_lowers}
use Rattle.sm_machine.proofs.laws.step_lowers_debt.Goals as goal

pub returns : goal.returns
returns c = record { debt = step_lowers }
