use Rattle.std.proofs.Common.{ℕ, ◌-◌, ◌/◌, ◌%◌, eqb, get_or, ap}
use Rattle.std.proofs.lemmas.Nat.Bits.{shr_and_one}
use Rattle.vhd_map.specs.Bitmaps.{is_set}
use Rattle.vhd_map.proofs.bitmaps.bit.Goals as goal

pub returns : goal.returns
unfolding is_set
returns c = ap (λ (x : ℕ). eqb x 1) (shr_and_one (get_or c.args.map.now (c.args.sector / 8) 0) (7 - c.args.sector % 8))
