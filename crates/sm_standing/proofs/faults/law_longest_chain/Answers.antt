use Rattle.sm_standing.proofs.FaultLaws.{chain_most, chain_more}
use Rattle.sm_standing.proofs.faults.law_longest_chain.Goals as goal

pub returns-clause-most : goal.returns-clause-most
returns-clause-most c = chain_most

pub returns-clause-more : goal.returns-clause-more
returns-clause-more c = chain_more
