use Rattle.std.proofs.Common.{◌*◌, sym, ap, arith}
use Rattle.sm_base.proofs.NumberLemmas.{div_up-div_ceil}
use Rattle.sm_base.specs.declared.sizes.Geometry.{Geometry}
use Rattle.sm_machine.specs.Refusals.{rounded}
use Rattle.sm_ready.specs.Known.{shape_in}
use Rattle.sm_ready.specs.Refusing.{extents_for}
use Rattle.sm_ready.proofs.needs.rounded.Goals as goal

pub returns-then-raw : goal.returns-then-raw
unfolding rounded shape_in
returns-then-raw c = λ s t m same.
    rw (c.if-raw.true, c.extents_needed.ensures.extents, c.from.ensures) (ap (λ (g : Geometry). extents_for g.extent c.args.size * g.extent) (sym same))

pub returns-else-raw : goal.returns-else-raw
unfolding rounded shape_in
returns-else-raw c = λ s t m same.
    let g = c.args.geometry.now in
    rw (c.if-raw.false, c.div_ceil.ensures, c.from-block.ensures, div_up-div_ceil c.args.size (512 * g.block) (omega (arith, g.in_range.block_least)))
    (ap (λ (g : Geometry). extents_for g.block c.args.size * g.block) (sym same))
