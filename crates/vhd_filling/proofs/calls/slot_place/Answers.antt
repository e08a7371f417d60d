use Rattle.std.proofs.Common.{◌*◌, ◌+◌, ◌≤◌, arith}
use Rattle.std.proofs.lemmas.Nat.{mul-le}
use Rattle.vhd_map.specs.Places.{spot}
use Rattle.vhd_map.proofs.Spots.{first-most}
use Rattle.vhd_filling.proofs.calls.slot_place.Goals as goal

pub overflow_add-result : goal.overflow_add-result
overflow_add-result c =
    let ok = c.args.geometry.now.in_range in
    let most : c.args.slot * (1 + c.args.geometry.now.block) ≤ 4294967295 * 4097 = mul-le c.args.slot (1 + c.args.geometry.now.block) 4294967295 4097 (omega (arith, c.ranges.slot.fits)) (omega (arith, ok.block_most)) in
    omega (arith, most, c.first.ensures, first-most c.args.geometry.now.entries ok.entries_most)

pub returns : goal.returns
unfolding spot
returns c = omega (arith, c.first.ensures)
