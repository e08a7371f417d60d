use Rattle.std.proofs.Common.{arith}
use Rattle.sm_base.proofs.NumberLemmas.{div_up-div_ceil}
use Rattle.vg_layout.specs.Places.{record_extents}
use Rattle.vg_layout.proofs.places.record_extents.Goals as goal

pub returns : goal.returns
unfolding record_extents
returns c = rw c.div_ceil.ensures (div_up-div_ceil 512 c.args.geometry.now.extent (omega (arith, c.args.geometry.now.in_range.extent_least)))
