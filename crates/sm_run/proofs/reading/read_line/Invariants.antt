use Rattle.std.proofs.Common.{◌≡◌}
use Rattle.sm_run.proofs.ReadLaws.{Reading}
use Rattle.sm_run.proofs.reading.read_line.Given as goal

abbrev pub invariant-pieces : goal.invariant-pieces
invariant-pieces g l = record {
  read : Reading (g.S.Source.content l.fn.source) (g.S.Source.content l.source) l.fn.room l.room l.line;
  calm : g.S.Source.faults l.source ≡ g.S.Source.faults l.fn.source;
}

abbrev pub decreases-pieces : goal.decreases-pieces
decreases-pieces g l = l.room
