use Rattle.std.proofs.Common.{take, Ok, ◌∷◌}
use Rattle.std.specs.List.{flat_map}
use Rattle.sm_machine.specs.Replies.{image_text}
use Rattle.sm_script.specs.Pieces.{Writes}
use Rattle.sm_script.proofs.listings.write_images.Given as goal

abbrev pub invariant-loop-image : goal.invariant-loop-image
invariant-loop-image g l =
    Writes (flat_map (λ r. 32 ∷ image_text r) (take l.image-index l.images))
    (g.K.Sink.content l.initial.sink) (g.K.Sink.content l.sink) (g.K.Sink.faults l.initial.sink) (g.K.Sink.faults l.sink) (Ok tt)
