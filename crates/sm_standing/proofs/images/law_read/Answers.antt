use Rattle.sm_standing.proofs.ImageLaws.{held_reads, parent_reads, top_zeros, past_zeros}
use Rattle.sm_standing.proofs.images.law_read.Goals as goal

pub returns-clause-held : goal.returns-clause-held
returns-clause-held c = held_reads

pub returns-clause-parent : goal.returns-clause-parent
returns-clause-parent c = parent_reads

pub returns-clause-top : goal.returns-clause-top
returns-clause-top c = top_zeros

pub returns-clause-past : goal.returns-clause-past
returns-clause-past c = past_zeros
