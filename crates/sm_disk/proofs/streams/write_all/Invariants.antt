use Rattle.std.proofs.Common.{◌-◌, length}
use Rattle.sm_disk.proofs.StreamLaws.{HasAdded}
use Rattle.sm_disk.proofs.streams.write_all.Given as goal

abbrev pub invariant-loop-done : goal.invariant-loop-done
invariant-loop-done g l = HasAdded (g.K.Sink.content l.initial.sink) (g.K.Sink.content l.sink) l.bytes l.done (g.K.Sink.faults l.initial.sink) (g.K.Sink.faults l.sink)

abbrev pub decreases-loop-done : goal.decreases-loop-done
decreases-loop-done g l = length l.bytes - l.done
