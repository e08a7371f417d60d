use Rattle.sm_standing.proofs.FaultLaws.{first_of_all, one_of_all, all_none}
use Rattle.sm_standing.proofs.faults.law_first_fault.Goals as goal

pub returns-clause-first : goal.returns-clause-first
returns-clause-first c = first_of_all

pub returns-clause-one_of : goal.returns-clause-one_of
returns-clause-one_of c = one_of_all

pub returns-clause-pass : goal.returns-clause-pass
returns-clause-pass c = all_none
