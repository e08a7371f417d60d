use Rattle.sm_machine.proofs.Moments.{extents_keep, size_keep}
use Rattle.sm_machine.proofs.laws.moments_keep_shape.Goals as goal

pub returns-clause-extents : goal.returns-clause-extents
returns-clause-extents c = λ s i extents w m operation. extents_keep s i extents w m operation

pub returns-clause-size : goal.returns-clause-size
returns-clause-size c = λ s i size w m operation. size_keep s i size w m operation
