use Rattle.std.proofs.Common.{[], ◌∙◌}
use Rattle.sm_disk.proofs.HeldLaws.{newest-last}
use Rattle.sm_disk.proofs.slots.Slot.newest.Goals as goal

pub returns-in-Some : goal.returns-in-Some
returns-in-Some c =
    let last = c.in-Some.ensures.item in
    rw (← c.self.view_is, ← c.deref.ensures.value) (last.3.1 [] ∙ newest-last _ _ [] last.3.0)
