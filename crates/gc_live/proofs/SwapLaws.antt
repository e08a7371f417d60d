-- The parent takes the leaf's place once no block is dirty: the shape, the debt and the counts, as from before the copies.
use Rattle.std.proofs.Common.{◌≡◌, ◌<◌, ◌∷◌, None, inl, Bool, true, false, List, [], length, refl, sym, ap, ◌∙◌, subst, arith}
use Rattle.std.proofs.lemmas.List.{length-map}
use Rattle.sm_base.specs.declared.names.Name.{Name}
use Rattle.sm_base.specs.declared.operations.Plan.TheVariants as plan
use Rattle.vg_volumes.specs.declared.stores.Store.{Ghosts}
use Rattle.sm_machine.specs.Collector.{IsLess, debt, next_step}
use Rattle.sm_machine.specs.Operations.{Op}
use Rattle.sm_machine.specs.Operations as op
use Rattle.sm_machine.specs.Steps.{shape_next}
use Rattle.sm_machine.specs.declared.commands.Command.TheVariants.{Gc}
use Rattle.sm_operation.specs.Kept.{dirty_in, least}
use Rattle.sm_refs.specs.Attached.{Attached}
use Rattle.sm_ready.specs.Does.{ShapesAs, store_shape}
use Rattle.sm_ready.specs.Known.{machine_row, shape_in}
use Rattle.sm_ready.specs.Sessions.{IsReadyStore}
use Rattle.sm_ready.specs.declared.memory.Memory.{Memory}
use Rattle.gc_leaf.specs.Swapping.{CountsAs, IsFoldingOf, folding_of}
use Rattle.gc_live.specs.Cleaning.{IsCleaned, clean_op, cleaned}
use Rattle.gc_live.proofs.CleanedShapes.{cleaned_none, swap_cleaned}

-- an operation with no dirty block
clean_none : (o : Op) → dirty_in o ≡ [] → clean_op o ≡ o
clean_none op.Idle none = refl
clean_none (op.Copy v p cursor) none = refl
clean_none (op.Relink v p) none = refl
clean_none (op.Leaf l p cursor) none = refl
clean_none (op.Live l p cursor dirty) none = ap (op.Live l p cursor) (sym none)

clean_folding : (attached : Bool) (l p : Name) (cursor : _) (dirty : List _) → clean_op (folding_of attached l p cursor dirty) ≡ folding_of attached l p cursor []
clean_folding true l p cursor dirty = refl
clean_folding false l p cursor dirty = refl

-- it folds the leaf that it folded with dirty blocks
still_folds : (o x : Op) (l p : Name) → clean_op x ≡ clean_op o → dirty_in x ≡ [] → (is : IsFoldingOf o l p) → x ≡ folding_of is.0 l p is.1 []
still_folds o x l p same none is = sym (clean_none x none) ∙ same ∙ ap clean_op is.3 ∙ clean_folding is.0 l p is.1 is.2

counts_same : (attached : Bool) (l p : Name) (cursor : _) (dirty : List _) (old new : Attached) → CountsAs (folding_of attached l p cursor []) p old new → CountsAs (folding_of attached l p cursor dirty) p old new
counts_same true l p cursor dirty old new h = h
counts_same false l p cursor dirty old new h = h

pub none_dirty : (xs : List _) → least xs ≡ None → xs ≡ []
none_dirty [] is = refl
none_dirty (x ∷ xs) is = absurd (let z = is in cc)

-- where there is one image less, the debt is less
pub fewer_images : {S : Type 0} (g : Ghosts S) (a d : S) (m k : Memory) → length k.tree.rows < length m.tree.rows → IsLess (debt (store_shape g d k)) (debt (store_shape g a m))
unfolding debt shape_in
fewer_images g a d m k less = inl (let one = length-map k.tree.rows machine_row in let two = length-map m.tree.rows machine_row in omega (arith, less, one, two))

module _ {S : Type 0} {g : Ghosts S} {a b : S} {m n : Memory} (c : IsCleaned g a m b n) (none : dirty_in n.operation ≡ []) where
  pub counts_then : (l p : Name) (new : Attached) → ((x y : Name) → IsFoldingOf n.operation x y → CountsAs n.operation y n.attached new) → IsFoldingOf m.operation l p → CountsAs m.operation p m.attached new
  counts_then l p new counted is =
      let then = still_folds m.operation n.operation l p c.operation none is in
      let h = counted l p (is.0, is.1, [], then) in
      subst (λ o. CountsAs o p m.attached new) (sym is.3)
      (counts_same is.0 l p is.1 is.2 m.attached new (subst (λ old. CountsAs (folding_of is.0 l p is.1 []) p old new) c.attached (subst (λ o. CountsAs o p n.attached new) then h)))

  -- the shape of memory then
  mid_shape : g.told → IsReadyStore g a m → store_shape g b n ≡ cleaned m.operation (store_shape g a m)
  unfolding shape_in
  mid_shape told ready = sym (cleaned_none (store_shape g b n) none) ∙ c.shape told ready

  pub shape_then : (d : S) (k : Memory) → next_step (store_shape g a m) ≡ plan.Swap → ShapesAs g Gc b n d k → g.told → IsReadyStore g a m → ShapesAs g Gc a m d k
  unfolding shape_in
  shape_then d k planned swapped told ready =
      let mid = mid_shape told ready in
      swapped ∙ ap (λ σ. shape_next σ Gc) mid ∙ swap_cleaned (store_shape g a m) planned (subst (λ σ. next_step σ ≡ plan.Swap) mid (c.next planned))

  -- there is one image less
  pub lowered_then : (d : S) (k : Memory) → length k.tree.rows < length n.tree.rows → IsLess (debt (store_shape g d k)) (debt (store_shape g a m))
  lowered_then d k less = fewer_images g a d m k (omega (arith, less, c.images))
