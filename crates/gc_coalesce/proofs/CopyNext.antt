-- Where the parent takes the leaf's place next, it does so behind the copy of a dirty block too.
use Rattle.std.proofs.Common.{◌≡◌, ⊎_elim, ℕ, ◌<◌, ◌≤◌, nat_lt, Bool, true, false, List, [], ◌∷◌, length, Option, Some, None, refl, sym, ap, ◌∙◌, subst, arith}
use Rattle.std.proofs.Math.Logic.{∥∥₁_elim}
use Rattle.std.proofs.Props.{props}
use Rattle.std.proofs.lemmas.Bool.{cases_lt, le-ltb, lt-ltb, true≢false}
use Rattle.common_laws.specs.Lists.{In}
use Rattle.sm_base.specs.declared.names.Name.{Name}
use Rattle.sm_base.specs.declared.operations.Plan.{Plan}
use Rattle.sm_base.specs.declared.operations.Plan.TheVariants as plan
use Rattle.vg_meta.specs.Tables.{VolumeTable}
use Rattle.vg_volumes.specs.Sites.{Site}
use Rattle.vhd_image.specs.Written.{MayHaveSlot}
use Rattle.vhd_image.specs.declared.images.Body.{Body}
use Rattle.vhd_chain.specs.declared.rows.TreeRow.{TreeRow}
use Rattle.sm_machine.specs.Collector.{clean_or, copy_or, next_block, next_step, plan_running, table_of}
use Rattle.sm_machine.specs.Operations.{advanced, dirty_limit, is_dirty, without_dirty}
use Rattle.sm_machine.specs.Operations as op
use Rattle.sm_machine.specs.Shapes.{Shape}
use Rattle.sm_machine.specs.WellFormed.{IsOperation}
use Rattle.sm_machine.proofs.Debts.{table_same}
use Rattle.sm_machine.proofs.Lives.{without_less}
use Rattle.sm_operation.specs.Kept.{dirty_in}
use Rattle.sm_ready.specs.Known.{Known, shape_in}
use Rattle.gc_coalesce.specs.Copying.{copy_of}
use Rattle.gc_coalesce.specs.declared.kinds.Kind.{Kind}
use Rattle.gc_coalesce.specs.declared.kinds.Kind.TheVariants as kinds
use Rattle.gc_coalesce.proofs.CopyKinds.{advanced_below, within_of}
use Rattle.gc_coalesce.proofs.CopyMemoryLaws.{behind, slot_is, still_is}
use Rattle.gc_coalesce.proofs.CopyPlanLaws.{IsToCopy, copies_only, dirty_in_list}

-- few blocks are dirty, and fewer are few
few_dirty : (n : ℕ) → nat_lt dirty_limit n ≡ false → n ≤ dirty_limit
few_dirty n e = ⊎_elim (λ less. absurd (true≢false (sym (lt-ltb dirty_limit n less) ∙ e))) (λ no_less. no_less) (cases_lt dirty_limit n)

pub clean_less : (xs ys : List ℕ) → length ys ≤ length xs → clean_or xs ≡ plan.Swap → clean_or ys ≡ plan.Swap
clean_less xs [] less is = refl
clean_less [] (y ∷ ys) less is = absurd (let l : length (y ∷ ys) ≤ 0 = less in omega (arith, l))
clean_less (x ∷ xs) (y ∷ ys) less is = by (nat_lt dirty_limit (length (x ∷ xs))) refl is
  where
    planned : Bool → ℕ → Plan
    planned c b = elim c as (λ _. Plan) [ true ↦ plan.Copy b | false ↦ plan.Swap ]

    by : (c : Bool) → nat_lt dirty_limit (length (x ∷ xs)) ≡ c → planned c x ≡ plan.Swap → planned (nat_lt dirty_limit (length (y ∷ ys))) y ≡ plan.Swap
    by true e f = absurd (let z = f in cc)
    by false e f = ap (λ c. planned c y) (le-ltb dirty_limit (length (y ∷ ys)) (let few = few_dirty (length (x ∷ xs)) e in omega (arith, few, less)))

-- no block is left from the cursor on, and few are dirty
swap_parts : (dirty : List ℕ) (o : Option ℕ) → copy_or (clean_or dirty) o ≡ plan.Swap → (o ≡ None) × (clean_or dirty ≡ plan.Swap)
swap_parts dirty None e = (refl, e)
swap_parts dirty (Some b) e = absurd (let z = e in cc)

module _ {s : Site} {t : VolumeTable} {m : Known} {v p : Name} {cursor b : ℕ} {i q : TreeRow} (h : IsToCopy s t m v p cursor b i q) (d : Body) (may : MayHaveSlot b q.image d) where
  -- the child's table is as it was
  table_then : table_of v (shape_in s t (behind d q b m)) ≡ table_of v (shape_in s t m)
  unfolding shape_in
  table_then = ∥∥₁_elim h.orderly.well_formed (hlevel props) (λ w. ⊎_elim
      (λ same. ap (table_of v) (still_is h d may same))
      (λ new. let c = (copies_only h w).link in table_same (shape_in s t m) w v p c.child c.there c.is_named c.linked b (shape_in s t (behind d q b m)) (ap (λ (σ : Shape). σ.images) (slot_is h d may new))) may)

  low_dirty : (dirty : List ℕ) → m.op ≡ op.Live v p cursor dirty → In b dirty → b < cursor
  unfolding shape_in
  low_dirty dirty is there = ∥∥₁_elim h.orderly.well_formed (hlevel props) (λ w. ((within_of (shape_in s t m) kinds.Live v p cursor dirty (subst (IsOperation (shape_in s t m)) is w.operation)).blocks b there).0)

  pub swap_stays : is_dirty b (dirty_in m.op) ≡ true → next_step (shape_in s t m) ≡ plan.Swap → next_step (shape_in s t (behind d q b m)) ≡ plan.Swap
  unfolding next_step plan_running shape_in
  swap_stays dirty planned = by h.kind h.dirty h.op
    where
      by : (k : Kind) (ds : List ℕ) → m.op ≡ copy_of k v p cursor ds → plan_running (shape_in s t (behind d q b m)) (advanced b m.op) ≡ plan.Swap
      by kinds.Hidden ds is = absurd (true≢false (sym (sym (ap (λ o. is_dirty b (dirty_in o)) is) ∙ dirty)))
      by kinds.Leaf ds is = absurd (true≢false (sym (sym (ap (λ o. is_dirty b (dirty_in o)) is) ∙ dirty)))
      by kinds.Live ds is =
          let there = dirty_in_list b ds (sym (ap (λ o. is_dirty b (dirty_in o)) is) ∙ dirty) in
          let was = swap_parts ds (next_block cursor (table_of v (shape_in s t m))) (sym (ap (plan_running (shape_in s t m)) is) ∙ planned) in
          let less = without_less b ds there in
          ap (plan_running (shape_in s t (behind d q b m))) (ap (advanced b) is ∙ advanced_below v p cursor b ds (low_dirty ds is there))
          ∙ ap (copy_or (clean_or (without_dirty b ds))) (ap (next_block cursor) table_then ∙ was.0)
          ∙ clean_less ds (without_dirty b ds) (omega (arith, less)) was.1
