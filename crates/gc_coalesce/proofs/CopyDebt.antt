-- A block that was copied lowers the debt, whether the parent got a slot for it or not: the blocks left are the child's.
use Rattle.std.proofs.Common.{◌≡◌, ℕ, ◌+◌, ◌<◌, List, Option, drop, length, inl, inr, ⊎_elim, refl, sym, ap, subst, arith}
use Rattle.std.proofs.Math.Logic.{∥∥₁_map}
use Rattle.sm_base.specs.declared.names.Name.{Name}
use Rattle.vg_meta.specs.Tables.{VolumeTable}
use Rattle.vg_volumes.specs.Sites.{Site}
use Rattle.vhd_image.specs.declared.images.Body.{Body}
use Rattle.vhd_chain.specs.declared.rows.TreeRow.{TreeRow}
use Rattle.sm_base.specs.declared.operations.Plan.TheVariants as plan
use Rattle.sm_machine.specs.Collector.{IsLess, debt, items_left, next_step, phase, table_of}
use Rattle.sm_machine.specs.Laws.{is_working}
use Rattle.sm_machine.specs.Operations.{advanced}
use Rattle.sm_machine.specs.Shapes.{Shape, count_blocks}
use Rattle.sm_machine.proofs.Debts.{step_lowers}
use Rattle.sm_ready.specs.Known.{Known, shape_in}
use Rattle.vhd_image.specs.Written.{MayHaveSlot}
use Rattle.gc_coalesce.specs.Copying.{copy_of, dirty_of}
use Rattle.gc_coalesce.specs.declared.kinds.Kind.{Kind}
use Rattle.gc_coalesce.specs.declared.kinds.Kind.TheVariants as kinds
use Rattle.gc_coalesce.proofs.CopyMemoryLaws.{behind, shape_copied, still_is}
use Rattle.gc_coalesce.proofs.CopyPlanLaws.{IsToCopy, its_table}

-- the blocks that are left of a copy
abbrev left : Kind → ℕ → List ℕ → List (Option ℕ) → ℕ
left k cursor dirty slots = count_blocks (drop cursor slots) + length (dirty_of k dirty)

-- the operation alone goes on
passed : (σ : Shape) (k : Kind) (v p : Name) (cursor next : ℕ) (dirty ds : List ℕ) → left k next ds (table_of v σ) < left k cursor dirty (table_of v σ)
    → IsLess (debt (record σ { op = copy_of k v p next ds })) (debt (record σ { op = copy_of k v p cursor dirty }))
unfolding debt phase items_left
passed σ kinds.Hidden v p cursor next dirty ds less = inr (refl, inr (refl, inl (omega (arith, less))))
passed σ kinds.Leaf v p cursor next dirty ds less = inr (refl, inr (refl, inl (omega (arith, less))))
passed σ kinds.Live v p cursor next dirty ds less = inr (refl, inr (refl, inl less))

module _ {s : Site} {t : VolumeTable} {m : Known} {v p : Name} {cursor b : ℕ} {i q : TreeRow} (h : IsToCopy s t m v p cursor b i q) where
  abbrev σ : Shape
  σ = shape_in s t m

  moved : IsLess (debt (record (shape_in s t m) { op = advanced b m.op })) (debt (shape_in s t m))
  unfolding shape_in
  moved = subst (λ o. IsLess (debt (record (shape_in s t m) { op = advanced b o })) (debt (record (shape_in s t m) { op = o }))) (sym h.op)
      (subst (λ o. IsLess (debt (record (shape_in s t m) { op = o })) (debt (record (shape_in s t m) { op = copy_of h.kind v p cursor h.dirty }))) (sym h.next.goes)
      (passed (shape_in s t m) h.kind v p cursor h.next.cursor_then h.dirty h.next.dirty_then
      (subst (λ slots. left h.kind h.next.cursor_then h.next.dirty_then slots < left h.kind cursor h.dirty slots) (sym (its_table h)) h.next.fewer)))

  pub lowers : next_step (shape_in s t m) ≡ plan.Copy b → (d : Body) → MayHaveSlot b q.image d → ∥ IsLess (debt (shape_in s t (behind d q b m))) (debt (shape_in s t m)) ∥₁
  lowers planned d may = ∥∥₁_map h.orderly.well_formed (λ w. ⊎_elim
      (λ same. subst (λ (x : Shape). IsLess (debt x) (debt σ)) (sym (still_is h d may same)) moved)
      (λ new. subst (λ (x : Shape). IsLess (debt x) (debt σ)) (sym (shape_copied h planned d new)) (step_lowers σ w (ap is_working planned))) may)
