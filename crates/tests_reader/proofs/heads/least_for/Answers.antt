use Rattle.std.proofs.Common.{arith}
use Rattle.sm_base.proofs.NumberLemmas.{div_up-div_ceil}
use Rattle.vg_layout.specs.Places.{record_extents}
use Rattle.tests_reader.proofs.heads.least_for.Goals as goal

pub returns : goal.returns
unfolding record_extents
returns c = rw c.div_ceil.ensures (div_up-div_ceil 512 c.args.extent (omega arith))
