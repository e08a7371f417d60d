use Rattle.sm_standing.proofs.ImageLaws.{raised_same, raised_zeros}
use Rattle.sm_standing.proofs.images.law_raised.Goals as goal

pub returns-clause-same : goal.returns-clause-same
returns-clause-same c = raised_same

pub returns-clause-zeros : goal.returns-clause-zeros
returns-clause-zeros c = raised_zeros
