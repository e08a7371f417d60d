use Rattle.std.proofs.Common.{arith}
use Rattle.vhd_map.proofs.Spots.{first-most}
use Rattle.vhd_map.proofs.entries.first_sector.Goals as goal

pub overflow_cast-result : goal.overflow_cast-result
overflow_cast-result c =
    let g = c.args.geometry.now in omega (arith, c.first.ensures, first-most g.entries g.in_range.entries_most)
