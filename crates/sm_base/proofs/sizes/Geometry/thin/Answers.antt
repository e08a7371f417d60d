use Rattle.std.proofs.Common.{◌+◌, ◌*◌, arith}
use Rattle.sm_base.specs.Numbers.{first, thin}
use Rattle.sm_base.proofs.NumberLemmas.{div_up-div_ceil, image_fits}
use Rattle.sm_base.proofs.sizes.Geometry.thin.Goals as goal

pub overflow_add-first : goal.overflow_add-first
overflow_add-first c =
    let g = c.args.self.now in
    let fits = image_fits g.extent g.block g.entries c.args.slots g.in_range c.requires in
    rw (c.from-slot.ensures, c.first.ensures) (omega arith)

pub overflow_add-first-2 : goal.overflow_add-first-2
overflow_add-first-2 c =
    let g = c.args.self.now in
    let fits = image_fits g.extent g.block g.entries c.args.slots g.in_range c.requires in
    rw (c.from-slot.ensures, c.first.ensures) (omega arith)

pub returns : goal.returns
unfolding thin
returns c =
    let g = c.args.self.now in
    rw (c.div_ceil.ensures, c.from.ensures, c.from-slot.ensures, c.first.ensures)
    (div_up-div_ceil (first g.entries + c.args.slots * (1 + g.block) + 1) g.extent (omega (arith, g.in_range.extent_least)))
