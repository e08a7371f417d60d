use Rattle.std.proofs.Common.{take, Ok}
use Rattle.sm_script.specs.Pieces.{Writes, led}
use Rattle.sm_script.proofs.pieces.write_led.Given as goal

abbrev pub invariant-loop-word : goal.invariant-loop-word
invariant-loop-word g l =
    Writes (led l.separator (take l.word-index l.words))
    (g.K.Sink.content l.initial.sink) (g.K.Sink.content l.sink) (g.K.Sink.faults l.initial.sink) (g.K.Sink.faults l.sink) (Ok tt)
