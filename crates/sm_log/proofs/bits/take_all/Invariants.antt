use Rattle.sm_log.specs.Kept.{AreFrom}
use Rattle.sm_log.proofs.bits.take_all.Given as goal

-- the bits up to this one are those of the sector
abbrev pub invariant-loop-piece : goal.invariant-loop-piece
invariant-loop-piece l = AreFrom l.first l.piece l.sector l.fn.bytes l.bytes
