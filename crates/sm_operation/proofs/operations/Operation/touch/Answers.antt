use Rattle.std.proofs.Common.{◌≡◌, ◌+◌, Bool, List, false, vec_capacity, slice_index_or, sym, ap, ◌∙◌, subst, arith}
use Rattle.sm_base.specs.declared.operations.Op.TheVariants as as_told
use Rattle.sm_machine.specs.Operations.{Op, touched}
use Rattle.sm_operation.specs.Kept.{AreCounted, seen}
use Rattle.sm_operation.proofs.CountLaws.{counted_more, few_told, has_room, touch_again, touch_behind, touch_new}
use Rattle.sm_operation.proofs.operations.Operation.touch.Goals as goal

-- the operation is live
live : (c : goal.After-mark) → AreCounted (as_told.Live c.in-Live.leaf c.in-Live.parent c.in-Live.cursor c.in-Live.dirty) (vec_capacity c.self.inside.dirty) c.self.inside.dirty.items
live c = subst (λ o. AreCounted o (vec_capacity c.self.inside.dirty) c.self.inside.dirty.items) c.in-Live.is c.self.invariant

clear : (c : goal.After-mark) → slice_index_or c.self.inside.dirty.items c.args.block false ≡ false
clear c = ap (λ (xs : List Bool). slice_index_or xs c.args.block false) (sym c.deref.ensures.value) ∙ sym c.is_set.ensures ∙ c.if-is_set.false

pub returns-then-cursor-block : goal.returns-then-cursor-block
returns-then-cursor-block c =
    let h = subst (λ o. AreCounted o (vec_capacity c.self.inside.dirty) c.self.inside.dirty.items) c.in-Live.is c.self.invariant in
    let is : seen (as_told.Live c.in-Live.leaf c.in-Live.parent c.in-Live.cursor c.in-Live.dirty) c.self.inside.dirty.items ≡ c.args.self.now = ap (λ o. seen o c.self.inside.dirty.items) (sym c.in-Live.is) ∙ c.self.view_is in
    subst (λ (x : Op). x ≡ touched c.args.block x) is (touch_behind c.in-Live.leaf c.in-Live.parent c.in-Live.cursor c.in-Live.dirty _ c.args.block c.self.inside.dirty.items h c.if-cursor-block.true)

pub returns-then-is_set : goal.returns-then-is_set
returns-then-is_set c =
    let h = subst (λ o. AreCounted o (vec_capacity c.self.inside.dirty) c.self.inside.dirty.items) c.in-Live.is c.self.invariant in
    let is : seen (as_told.Live c.in-Live.leaf c.in-Live.parent c.in-Live.cursor c.in-Live.dirty) c.self.inside.dirty.items ≡ c.args.self.now = ap (λ o. seen o c.self.inside.dirty.items) (sym c.in-Live.is) ∙ c.self.view_is in
    subst (λ (x : Op). x ≡ touched c.args.block x) is
    (touch_again c.in-Live.leaf c.in-Live.parent c.in-Live.cursor c.in-Live.dirty _ c.args.block c.self.inside.dirty.items h c.if-cursor-block.false
    (ap (λ (xs : List Bool). slice_index_or xs c.args.block false) (sym c.deref.ensures.value) ∙ sym c.is_set.ensures ∙ c.if-is_set.true))

pub mark-requires : goal.mark-requires
mark-requires c = has_room c.self.inside.op _ c.self.inside.dirty.items c.args.block c.self.invariant c.requires

pub overflow_add-self : goal.overflow_add-self
overflow_add-self c = let e = few_told (as_told.Live c.in-Live.leaf c.in-Live.parent c.in-Live.cursor c.in-Live.dirty) _ c.self.inside.dirty.items (live c) in omega (arith, e)

pub invariant_of-self : goal.invariant_of-self
invariant_of-self c = subst (AreCounted _ _) (sym c.mark.ensures.flags) (counted_more c.in-Live.leaf c.in-Live.parent c.in-Live.cursor c.in-Live.dirty _ c.args.block c.self.inside.dirty.items
    (subst (λ o. AreCounted o (vec_capacity c.self.inside.dirty) c.self.inside.dirty.items) c.in-Live.is c.self.invariant) _ c.mark.ensures.room c.requires
    (ap (λ (xs : List Bool). slice_index_or xs c.args.block false) (sym c.deref.ensures.value) ∙ sym c.is_set.ensures ∙ c.if-is_set.false))

pub returns : goal.returns
returns c =
    let h = subst (λ o. AreCounted o (vec_capacity c.self.inside.dirty) c.self.inside.dirty.items) c.in-Live.is c.self.invariant in
    let is : seen (as_told.Live c.in-Live.leaf c.in-Live.parent c.in-Live.cursor c.in-Live.dirty) c.self.inside.dirty.items ≡ c.args.self.now = ap (λ o. seen o c.self.inside.dirty.items) (sym c.in-Live.is) ∙ c.self.view_is in
    ap (λ xs. seen (as_told.Live c.in-Live.leaf c.in-Live.parent c.in-Live.cursor (c.in-Live.dirty + 1)) xs) c.mark.ensures.flags
    ∙ touch_new c.in-Live.leaf c.in-Live.parent c.in-Live.cursor c.in-Live.dirty _ c.args.block c.self.inside.dirty.items h c.if-cursor-block.false
    (ap (λ (xs : List Bool). slice_index_or xs c.args.block false) (sym c.deref.ensures.value) ∙ sym c.is_set.ensures ∙ c.if-is_set.false)
    ∙ ap (touched c.args.block) is
