use Rattle.std.proofs.Common.{length, arith}
use Rattle.sm_base.proofs.NumberLemmas.{div_up-pos}
use Rattle.tests_logs.proofs.bytes.is_spelled.Goals as goal

-- bits of one piece or more have a sector
pub from_sector-requires : goal.from_sector-requires
from_sector-requires g c = div_up-pos (length c.in_ok-bits.bits) 4096 (omega arith) (omega (arith, c.if-pieces-gt0.true, c.pieces.ensures))
