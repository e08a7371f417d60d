use Rattle.std.proofs.Common.{sym, ◌∙◌}
use Rattle.sm_disk.proofs.HeldLaws.{reads-wrote}
use Rattle.sm_disk.proofs.ReachesLaws.{Reaches-then, Reaches-torn, Reaches-keeps}
use Rattle.sm_disk.proofs.devices.put.Goals as goal

pub returns-in_err-write-clause-reaches : goal.returns-in_err-write-clause-reaches
returns-in_err-write-clause-reaches g c = λ told. Reaches-torn (c.write.ensures.torn told)

pub returns-in_err-sync-clause-reaches : goal.returns-in_err-sync-clause-reaches
returns-in_err-sync-clause-reaches g c = λ told.
    Reaches-then (Reaches-torn (c.write.ensures.torn told)) (Reaches-keeps _ (c.sync.ensures.keeps told))

pub returns-clause-reaches : goal.returns-clause-reaches
returns-clause-reaches g c = λ told.
    Reaches-then (Reaches-torn (c.write.ensures.torn told)) (Reaches-keeps _ (c.sync.ensures.keeps told))

pub returns-clause-within : goal.returns-clause-within
returns-clause-within g c = λ told p here.
    let kept = c.sync.ensures.keeps told in
    let wrote = c.in_ok-write.ensures.wrote told in
    sym (kept.reads p ∙ reads-wrote wrote p here)
