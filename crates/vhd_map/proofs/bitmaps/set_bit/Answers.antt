use Rattle.std.proofs.Common.{arith}
use Rattle.vhd_map.proofs.Bits.{is_set-set_same, is_set-set_other}
use Rattle.vhd_map.proofs.bitmaps.set_bit.Goals as goal

pub returns-clause-set : goal.returns-clause-set
returns-clause-set c = is_set-set_same c.args.map.now c.args.sector (omega arith)

pub returns-clause-others : goal.returns-clause-others
returns-clause-others c = λ i apart. is_set-set_other c.args.map.now c.args.sector i (omega arith) apart
