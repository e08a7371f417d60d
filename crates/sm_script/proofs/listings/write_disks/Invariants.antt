use Rattle.std.proofs.Common.{take, Ok, ◌∷◌}
use Rattle.std.specs.List.{flat_map}
use Rattle.sm_machine.specs.Replies.{disk_text}
use Rattle.sm_script.specs.Pieces.{Writes}
use Rattle.sm_script.proofs.listings.write_disks.Given as goal

abbrev pub invariant-loop-disk : goal.invariant-loop-disk
invariant-loop-disk g l =
    Writes (flat_map (λ r. 32 ∷ disk_text r) (take l.disk-index l.disks))
    (g.K.Sink.content l.initial.sink) (g.K.Sink.content l.sink) (g.K.Sink.faults l.initial.sink) (g.K.Sink.faults l.sink) (Ok tt)
