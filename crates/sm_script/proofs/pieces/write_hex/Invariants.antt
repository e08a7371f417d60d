use Rattle.std.proofs.Common.{◌-◌, length, take, Ok}
use Rattle.sm_machine.specs.Replies.{hex_text}
use Rattle.sm_script.specs.Pieces.{Writes}
use Rattle.sm_script.proofs.pieces.write_hex.Given as goal

abbrev pub invariant-loop-done : goal.invariant-loop-done
invariant-loop-done g l =
    Writes (hex_text (take l.done l.bytes))
    (g.K.Sink.content l.initial.sink) (g.K.Sink.content l.sink) (g.K.Sink.faults l.initial.sink) (g.K.Sink.faults l.sink) (Ok tt)

abbrev pub decreases-loop-done : goal.decreases-loop-done
decreases-loop-done g l = length l.bytes - l.done
