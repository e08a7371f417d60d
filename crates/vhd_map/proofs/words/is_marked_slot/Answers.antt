use Rattle.std.proofs.Common.{ℕ, ◌/◌, ◌%◌, eqb, get_or, ap}
use Rattle.std.proofs.lemmas.Nat.Bits.{shr_and_one}
use Rattle.vhd_map.specs.Words.{is_marked}
use Rattle.vhd_map.proofs.words.is_marked_slot.Goals as goal

pub returns : goal.returns
unfolding is_marked
returns c = ap (λ (x : ℕ). eqb x 1) (shr_and_one (get_or c.args.words.now (c.args.slot / 64) 0) (c.args.slot % 64))
