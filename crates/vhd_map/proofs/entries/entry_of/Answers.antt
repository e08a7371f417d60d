use Rattle.std.proofs.Common.{arith}
use Rattle.sm_base.specs.Numbers.{first}
use Rattle.vhd_map.specs.Places.{spot}
use Rattle.vhd_map.proofs.Spots.{spot-small, first-most}
use Rattle.vhd_map.proofs.entries.entry_of.Goals as goal

pub overflow_add-result-2 : goal.overflow_add-result-2
unfolding spot
overflow_add-result-2 c =
    let g = c.args.geometry.now in
    let small = spot-small (first g.entries) g.block c.args.slot (first-most g.entries g.in_range.entries_most) g.in_range.block_most (omega (arith, g.in_range.entries_most)) in
    omega (arith, small, c.first_sector.ensures)

pub returns-clause-named : goal.returns-clause-named
unfolding spot
returns-clause-named c = omega (arith, c.first_sector.ensures)

pub returns-clause-slot : goal.returns-clause-slot
unfolding spot
returns-clause-slot c = λ same.
    let g = c.args.geometry.now in
    let small = spot-small (first g.entries) g.block c.args.slot (first-most g.entries g.in_range.entries_most) g.in_range.block_most (omega (arith, g.in_range.entries_most)) in
    omega (arith, small, c.first_sector.ensures)
