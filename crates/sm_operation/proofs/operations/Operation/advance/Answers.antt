use Rattle.std.proofs.Common.{◌≡◌, ◌-◌, Bool, false, List, slice_index_or, vec_capacity, sym, ap, ◌∙◌, subst}
use Rattle.sm_base.specs.declared.operations.Op.TheVariants as as_told
use Rattle.sm_machine.specs.Operations.{Op, advanced}
use Rattle.sm_operation.specs.Kept.{AreCounted, seen}
use Rattle.sm_operation.proofs.CountLaws.{copied_clean, copied_dirty, counted_less, some_dirty}
use Rattle.sm_operation.proofs.FlagLaws.{set_within}
use Rattle.sm_operation.proofs.operations.Operation.advance.Goals as goal

pub clear-requires : goal.clear-requires
clear-requires c = set_within c.args.block c.self.inside.dirty.items
    (ap (λ (xs : List Bool). slice_index_or xs c.args.block false) (sym c.deref.ensures.value) ∙ sym c.is_set.ensures ∙ c.if-not-is_set.false)

pub returns-then-not-is_set : goal.returns-then-not-is_set
returns-then-not-is_set c =
    let h = subst (λ o. AreCounted o (vec_capacity c.self.inside.dirty) c.self.inside.dirty.items) c.in-Live.is c.self.invariant in
    let is : seen (as_told.Live c.in-Live.leaf c.in-Live.parent c.in-Live.cursor c.in-Live.dirty) c.self.inside.dirty.items ≡ c.args.self.now = ap (λ o. seen o c.self.inside.dirty.items) (sym c.in-Live.is) ∙ c.self.view_is in
    subst (λ (x : Op). x ≡ advanced c.args.block x) is
    (copied_clean c.in-Live.leaf c.in-Live.parent c.in-Live.cursor c.in-Live.dirty _ c.args.block c.self.inside.dirty.items h c.if-cursor-block.false
    (ap (λ (xs : List Bool). slice_index_or xs c.args.block false) (sym c.deref.ensures.value) ∙ sym c.is_set.ensures ∙ c.if-not-is_set.true))

pub overflow_sub-self : goal.overflow_sub-self
overflow_sub-self c = some_dirty c.in-Live.leaf c.in-Live.parent c.in-Live.cursor c.in-Live.dirty _ c.args.block c.self.inside.dirty.items
    (subst (λ o. AreCounted o (vec_capacity c.self.inside.dirty) c.self.inside.dirty.items) c.in-Live.is c.self.invariant)
    (ap (λ (xs : List Bool). slice_index_or xs c.args.block false) (sym c.deref.ensures.value) ∙ sym c.is_set.ensures ∙ c.if-not-is_set.false)

pub invariant_of-self-in-Live : goal.invariant_of-self-in-Live
invariant_of-self-in-Live c = subst (AreCounted _ _) (sym c.clear.ensures.flags) (counted_less c.in-Live.leaf c.in-Live.parent c.in-Live.cursor c.in-Live.dirty _ c.args.block c.self.inside.dirty.items
    (subst (λ o. AreCounted o (vec_capacity c.self.inside.dirty) c.self.inside.dirty.items) c.in-Live.is c.self.invariant) _ c.clear.ensures.room
    (ap (λ (xs : List Bool). slice_index_or xs c.args.block false) (sym c.deref.ensures.value) ∙ sym c.is_set.ensures ∙ c.if-not-is_set.false))

pub returns-else-not-is_set : goal.returns-else-not-is_set
returns-else-not-is_set c =
    let h = subst (λ o. AreCounted o (vec_capacity c.self.inside.dirty) c.self.inside.dirty.items) c.in-Live.is c.self.invariant in
    let is : seen (as_told.Live c.in-Live.leaf c.in-Live.parent c.in-Live.cursor c.in-Live.dirty) c.self.inside.dirty.items ≡ c.args.self.now = ap (λ o. seen o c.self.inside.dirty.items) (sym c.in-Live.is) ∙ c.self.view_is in
    ap (λ xs. seen (as_told.Live c.in-Live.leaf c.in-Live.parent c.in-Live.cursor (c.in-Live.dirty - 1)) xs) c.clear.ensures.flags
    ∙ copied_dirty c.in-Live.leaf c.in-Live.parent c.in-Live.cursor c.in-Live.dirty _ c.args.block c.self.inside.dirty.items h c.if-cursor-block.false
    ∙ ap (advanced c.args.block) is
