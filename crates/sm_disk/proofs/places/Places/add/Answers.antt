use Rattle.std.proofs.Common.{refl, Option, IsSome, ap, sym, subst, ◌∙◌}
use Rattle.std.proofs.lemmas.Map.Views.{All-values-insert_entry, All-values-set_value}
use Rattle.std.proofs.lemmas.Result.{on_ok_weaker, on_err_weaker}
use Rattle.std.specs.Ordering.{nat_cmp}
use Rattle.std.specs.BTreeMap.{is_at}
use Rattle.sm_disk.specs.Memory.{HeldPlace, HoldsSectors}
use Rattle.sm_disk.proofs.SlotLaws.{Updated, more, HoldsSectors-found, HoldsSectors-added, HoldsSectors-new, slot_at-some, slot_at-none, wrote_by_update, same_by_update}
use Rattle.sm_disk.proofs.places.Places.add.Goals as goal

pub invariant_of-self : goal.invariant_of-self
invariant_of-self c =
    let through = c.get_mut.follows.holds c.add.new.self in
    let found = HoldsSectors-found _ c.args.place c.in-Some.slot.now c.self.invariant c.in-Some.ensures.value in
    let kept = HoldsSectors-added c.add.result c.in-Some.slot.now c.add.new.self c.args.value.now c.add.ensures.added c.add.ensures.unchanged found c.requires in
    rw through.0 (All-values-set_value (is_at (nat_cmp c.args.place)) (λ k. HoldsSectors k) _ _ c.self.invariant kept)

pub returns-in-Some-clause-added : goal.returns-in-Some-clause-added
returns-in-Some-clause-added c =
    let slots = c.self.inside.slots.entries in
    let place = c.args.place in
    let value = c.args.value.now in
    let found = c.in-Some.ensures.value in
    let P : Option HeldPlace → Type 0 = λ o. IsSome o in
    let through = (c.get_mut.follows.holds c.add.new.self).3 (subst P found refl) in
    let Q : HeldPlace → Type 0 = λ k. Updated place k slots (c.get_mut.follows.lender c.add.new.self).entries in
    rw (← c.self.view_is) (on_ok_weaker c.add.result (λ added.
    wrote_by_update place value slots _ c.requires.long
    (subst Q (added ∙ ap (λ (k : HeldPlace). more k value) (sym (slot_at-some slots place c.in-Some.slot.now found))) (record { look = λ q. through.0 q })))
    c.add.ensures.added)

pub returns-in-Some-clause-unchanged : goal.returns-in-Some-clause-unchanged
returns-in-Some-clause-unchanged c =
    let slots = c.self.inside.slots.entries in
    let place = c.args.place in
    let found = c.in-Some.ensures.value in
    let P : Option HeldPlace → Type 0 = λ o. IsSome o in
    let through = (c.get_mut.follows.holds c.add.new.self).3 (subst P found refl) in
    let Q : HeldPlace → Type 0 = λ k. Updated place k slots (c.get_mut.follows.lender c.add.new.self).entries in
    rw (← c.self.view_is) (on_err_weaker c.add.result (λ kept.
    same_by_update place slots _
    (subst Q (kept ∙ sym (slot_at-some slots place c.in-Some.slot.now found)) (record { look = λ q. through.0 q })))
    c.add.ensures.unchanged)

pub invariant_of-self-in-Ok : goal.invariant_of-self-in-Ok
invariant_of-self-in-Ok c =
    let P : HeldPlace → Type 0 = λ k. HoldsSectors k in
    let kept = subst P (sym c.in_ok-slot.ensures) (HoldsSectors-new c.args.value.now c.requires) in
    rw (c.in-Ok.ensures.entries, c.get_mut.follows.holds-at-none)
    (All-values-insert_entry nat_cmp c.args.place _ (λ k. HoldsSectors k) _ c.self.invariant kept)

pub returns-in-Ok-clause-added : goal.returns-in-Ok-clause-added
returns-in-Ok-clause-added c =
    let slots = c.self.inside.slots.entries in
    let place = c.args.place in
    let value = c.args.value.now in
    let none = slot_at-none slots place c.in_default.ensures.value in
    let Q : HeldPlace → Type 0 = λ k. Updated place k slots c.insert.new.self.entries in
    rw (← c.self.view_is) (wrote_by_update place value slots _ c.requires.long
    (subst Q (c.in_ok-slot.ensures ∙ ap (λ (k : HeldPlace). more k value) (sym none)) (record { look = λ q. rw c.get_mut.follows.holds-at-none at (c.in-Ok.ensures.updates.0 q) })))
