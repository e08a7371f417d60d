use Rattle.sm_log.specs.Kept.{AreSet}
use Rattle.sm_log.proofs.bits.set_all.Given as goal

-- the bits up to this one are set
abbrev pub invariant-loop-piece : goal.invariant-loop-piece
invariant-loop-piece l = AreSet l.first l.piece l.fn.bytes l.bytes
