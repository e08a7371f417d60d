use Rattle.std.proofs.Common.{◌*◌, arith}
use Rattle.sm_base.proofs.NumberLemmas.{div_up-div_ceil}
use Rattle.sm_ready.proofs.needs.extents_needed.Goals as goal

pub returns-clause-extents : goal.returns-clause-extents
returns-clause-extents c =
    let g = c.args.geometry.now in
    rw (c.div_ceil.ensures, c.from.ensures) (div_up-div_ceil c.args.size (512 * g.extent) (omega (arith, g.in_range.extent_least)))
