use Rattle.sm_log.specs.Kept.{AreClear}
use Rattle.sm_log.proofs.bits.clear_all.Given as goal

-- the bits up to this one are clear
abbrev pub invariant-loop-piece : goal.invariant-loop-piece
invariant-loop-piece l = AreClear l.first l.piece l.fn.bytes l.bytes
