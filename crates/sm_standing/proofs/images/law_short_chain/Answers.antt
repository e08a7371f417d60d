use Rattle.sm_standing.proofs.WalkLaws.{short_reads, reads_short}
use Rattle.sm_standing.proofs.images.law_short_chain.Goals as goal

pub returns-clause-some : goal.returns-clause-some
returns-clause-some c = short_reads

pub returns-clause-only : goal.returns-clause-only
returns-clause-only c = reads_short
