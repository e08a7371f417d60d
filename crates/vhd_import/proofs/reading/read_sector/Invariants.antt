use Rattle.std.proofs.Common.{◌-◌}
use Rattle.vhd_import.proofs.ReadLaws.{HasTaken}
use Rattle.vhd_import.proofs.reading.read_sector.Given as goal

abbrev pub invariant-loop-done : goal.invariant-loop-done
invariant-loop-done g l = HasTaken (g.S.Source.content l.initial.source) (g.S.Source.content l.source) l.to l.done (g.S.Source.faults l.initial.source) (g.S.Source.faults l.source)

abbrev pub decreases-loop-done : goal.decreases-loop-done
decreases-loop-done g l = 512 - l.done
