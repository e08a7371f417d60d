use Rattle.std.proofs.Common.{◌≡◌, ℕ, ◌+◌, ◌*◌, refl, arith}
use Rattle.sm_base.specs.Numbers.{first}
use Rattle.vhd_map.specs.Places.{spot}
use Rattle.vhd_map.proofs.Spots.{spot-small, spot-part, first-most}
use Rattle.vhd_write.proofs.calls.place_of.Goals as goal

-- the sum is that of the definition
same_place : (f n s t p a b q : ℕ) → f ≡ a → n ≡ s → t ≡ 1 + b → p ≡ q → f + (n * t + p) ≡ spot a b s q
unfolding spot
same_place f n s t p a b q e1 e2 e3 e4 = rw (e1, e2, e3, e4) refl

pub returns : goal.returns
returns c =
    let g = c.args.geometry.now in
    same_place c.first.result c.from.result c.args.slot (1 + c.from-stride.result) c.from-2.result (first g.entries) g.block c.args.part (omega (arith, c.first.ensures)) (omega (arith, c.from.ensures)) (omega (arith, c.from-stride.ensures)) (omega (arith, c.from-2.ensures))

pub overflow_add-result-2 : goal.overflow_add-result-2
overflow_add-result-2 c =
    let g = c.args.geometry.now in
    let same = same_place c.first.result c.from.result c.args.slot (1 + c.from-stride.result) c.from-2.result (first g.entries) g.block c.args.part (omega (arith, c.first.ensures)) (omega (arith, c.from.ensures)) (omega (arith, c.from-stride.ensures)) (omega (arith, c.from-2.ensures)) in
    let small = spot-small (first g.entries) g.block c.args.slot (first-most g.entries g.in_range.entries_most) g.in_range.block_most (omega (arith, g.in_range.entries_most)) in
    let part = spot-part (first g.entries) g.block c.args.slot c.args.part in
    omega (arith, same, small, part, g.in_range.block_most)
