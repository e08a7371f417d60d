use Rattle.sm_log.specs.Kept.{AllSet}
use Rattle.sm_log.proofs.bits.are_set.Given as goal

-- the bits up to this one are set
abbrev pub invariant-loop-piece : goal.invariant-loop-piece
invariant-loop-piece l = AllSet l.first l.piece l.bytes
