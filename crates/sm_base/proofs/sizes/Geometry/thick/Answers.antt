use Rattle.std.proofs.Common.{ap, arith}
use Rattle.sm_base.specs.Numbers.{thin, thick}
use Rattle.sm_base.proofs.NumberLemmas.{div_up-div_ceil, blocks-le}
use Rattle.sm_base.proofs.sizes.Geometry.thick.Goals as goal

pub thin-requires : goal.thin-requires
thin-requires c =
    let g = c.args.self.now in
    rw (c.div_ceil.ensures, c.from.ensures, div_up-div_ceil c.args.sectors g.block (omega (arith, g.in_range.block_least)))
    (blocks-le c.args.sectors g.block g.entries (omega (arith, g.in_range.block_least)) c.requires)

pub returns : goal.returns
unfolding thick
returns c =
    let g = c.args.self.now in
    rw (c.thin.ensures, c.div_ceil.ensures, c.from.ensures)
    (ap (thin g.extent g.block g.entries) (div_up-div_ceil c.args.sectors g.block (omega (arith, g.in_range.block_least))))
