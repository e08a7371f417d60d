use Rattle.std.proofs.Common.{ℕ, ◌-◌, ◌/◌, ◌%◌, eqb, get_or, ap}
use Rattle.std.proofs.lemmas.Nat.Bits.{shr_and_one}
use Rattle.vhd_map.specs.Bitmaps.{is_set}
use Rattle.sm_log.proofs.bits.bit.Goals as goal

pub returns : goal.returns
unfolding is_set
returns c = ap (λ (x : ℕ). eqb x 1) (shr_and_one (get_or c.args.bytes.now (c.args.piece / 8) 0) (7 - c.args.piece % 8))
