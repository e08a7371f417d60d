use Rattle.std.proofs.Common.{◌+◌, arith}
use Rattle.std.proofs.lemmas.Nat.{div-add-mod'}
use Rattle.sm_base.specs.Numbers.{first}
use Rattle.vhd_map.specs.Places.{spot}
use Rattle.vhd_map.proofs.Spots.{spot-first, spot-stride}
use Rattle.vhd_map.proofs.entries.slot_named.Goals as goal

pub returns-in_err-past_first : goal.returns-in_err-past_first
returns-in_err-past_first c = rw c.from_residual.ensures (λ slot same.
    let g = c.args.geometry.now in
    c.in_err-past_first.ensures (omega (arith, spot-first (first g.entries) g.block slot 0, c.first_sector.ensures, same)))

pub returns-then-past_first-stride-eq0 : goal.returns-then-past_first-stride-eq0
unfolding spot
returns-then-past_first-stride-eq0 c =
    let whole = div-add-mod' c.in_ok-past_first.past_first (1 + c.args.geometry.now.block) in
    let known = c.in_ok-past_first.ensures in
    omega (arith, whole, known.0, known.1, c.first_sector.ensures, c.if-past_first-stride-eq0.true)

pub returns-else-past_first-stride-eq0 : goal.returns-else-past_first-stride-eq0
returns-else-past_first-stride-eq0 c = λ slot same.
    let g = c.args.geometry.now in
    let known = c.in_ok-past_first.ensures in
    c.if-past_first-stride-eq0.false (spot-stride (first g.entries) g.block slot c.in_ok-past_first.past_first (omega (arith, known.0, known.1, c.first_sector.ensures, same)))
