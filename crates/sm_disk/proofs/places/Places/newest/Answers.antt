use Rattle.std.proofs.Common.{◌∙◌, ap, sym}
use Rattle.sm_disk.specs.Sectors.{zeros}
use Rattle.sm_disk.specs.Held.{newest}
use Rattle.sm_disk.specs.Memory.{HeldPlace}
use Rattle.sm_disk.proofs.SlotLaws.{slot_at-some, slot_at-none}
use Rattle.sm_disk.proofs.places.Places.newest.Goals as goal

pub returns-in-Some : goal.returns-in-Some
returns-in-Some c =
    let there = slot_at-some c.self.inside.slots.entries c.args.place c.in-Some.slot.now c.in-Some.ensures.value in
    rw (← c.self.view_is) (c.newest.ensures ∙ ap (λ (k : HeldPlace). newest k.floor k.pending) (sym there))

pub returns-in-None : goal.returns-in-None
unfolding zeros
returns-in-None c =
    let there = slot_at-none c.self.inside.slots.entries c.args.place c.in-None.ensures.value in
    rw (← c.self.view_is) (ap (λ (k : HeldPlace). newest k.floor k.pending) (sym there))
