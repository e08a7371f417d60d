-- What the collector's plan says of the operation that runs, and the shape after its step.
use Rattle.std.proofs.Common.{◌≡◌, ℕ, ◌+◌, nat_lt, Bool, true, false, List, [], ◌∷◌, ◌++◌, length, Option, Some, None, refl, sym, ap, ◌∙◌}
use Rattle.std.proofs.lemmas.Bool.{true≢false}
use Rattle.std.specs.List.{find}
use Rattle.common_laws.specs.Lists.{In}
use Rattle.common_laws.proofs.Lists.{find-some}
use Rattle.sm_base.specs.declared.names.Name.{Name}
use Rattle.sm_machine.specs.Operations.{Op, dirty_limit}
use Rattle.sm_machine.specs.Operations as op
use Rattle.sm_base.specs.declared.operations.Plan.{Plan}
use Rattle.sm_base.specs.declared.operations.Plan.TheVariants as plan
use Rattle.vg_meta.specs.Tables.{VolumeTable}
use Rattle.vg_volumes.specs.Sites.{Site}
use Rattle.sm_machine.specs.Collector.{Pair, blocked, clean_or, collected, copy_or, fits, is_garbage, is_loose, leaves, lives, next_block, next_step, pairs, plan_copy, plan_idle, plan_running, relink_or, table_of, target}
use Rattle.sm_machine.specs.Commits.{commits, gives_up, is_given_up, own_commits, plan_commits}
use Rattle.sm_machine.specs.Shapes.{ImageRow, Shape, children, risen, thin_in, top}
use Rattle.sm_machine.specs.Steps.{shape_after, shape_next}
use Rattle.sm_machine.specs.declared.commands.Command.TheVariants.{Gc}
use Rattle.sm_ready.specs.Known.{Known, shape_in}

-- the steps that may be planned while this operation runs
abbrev pub may_plan : Op → Plan → Bool
may_plan op.Idle plan.Abandon = false
may_plan op.Idle (plan.Copy b) = false
may_plan op.Idle plan.Turn = false
may_plan op.Idle (plan.RelinkOne c) = false
may_plan op.Idle plan.Finish = false
may_plan op.Idle plan.Swap = false
may_plan op.Idle _ = true
may_plan (op.Copy v p cursor) plan.Abandon = true
may_plan (op.Copy v p cursor) (plan.Copy b) = true
may_plan (op.Copy v p cursor) plan.Turn = true
may_plan (op.Copy v p cursor) _ = false
may_plan (op.Relink v p) (plan.RelinkOne c) = true
may_plan (op.Relink v p) plan.Finish = true
may_plan (op.Relink v p) _ = false
may_plan (op.Leaf l p cursor) (plan.Copy b) = true
may_plan (op.Leaf l p cursor) plan.Swap = true
may_plan (op.Leaf l p cursor) _ = false
may_plan (op.Live l p cursor dirty) (plan.Copy b) = true
may_plan (op.Live l p cursor dirty) plan.Swap = true
may_plan (op.Live l p cursor dirty) _ = false

module _ (σ : Shape) where
  abbrev idle_by : Option ImageRow → Option ImageRow → Option Pair → Option Pair → Option Pair → Plan
  idle_by g l p q r = elim g [
    | Some i ↦ plan.Remove i.name
    | None ↦ elim l [
      | Some i ↦ plan.Deflate i.name (thin_in σ (top i.slots))
      | None ↦ elim p [
        | Some a ↦ plan.Begin a.child.name a.parent.name (target σ a)
        | None ↦ elim q [
          | Some a ↦ plan.Leaf a.child.name a.parent.name (target σ a)
          | None ↦ elim r [
            | Some a ↦ plan.Live a.child.name a.parent.name (target σ a)
            | None ↦ blocked σ (pairs σ ++ (leaves σ ++ lives σ))
          ]
        ]
      ]
    ]
  ]

  may_block : (ps : List Pair) → may_plan op.Idle (blocked σ ps) ≡ true
  may_block [] = refl
  may_block (p ∷ ps) = refl

  may_idle : (g l : Option ImageRow) (p q r : Option Pair) → may_plan op.Idle (idle_by g l p q r) ≡ true
  may_idle (Some i) l p q r = refl
  may_idle None (Some i) p q r = refl
  may_idle None None (Some a) q r = refl
  may_idle None None None (Some a) r = refl
  may_idle None None None None (Some a) = refl
  may_idle None None None None None = may_block (pairs σ ++ (leaves σ ++ lives σ))

  may_copy : (v p : Name) (cursor : ℕ) (is : List ImageRow) (b : Option ℕ) → next_block cursor (table_of v σ) ≡ b → may_plan (op.Copy v p cursor) (plan_copy σ v cursor is) ≡ true
  may_copy v p cursor [] b e = refl
  may_copy v p cursor (i ∷ is) None e = ap (λ x. may_plan (op.Copy v p cursor) (copy_or plan.Turn x)) e
  may_copy v p cursor (i ∷ is) (Some b) e = ap (λ x. may_plan (op.Copy v p cursor) (copy_or plan.Turn x)) e

  may_link : (v p : Name) (is : List ImageRow) → may_plan (op.Relink v p) (relink_or is) ≡ true
  may_link v p [] = refl
  may_link v p (i ∷ is) = refl

  may_fold : (l p : Name) (cursor : ℕ) (b : Option ℕ) → may_plan (op.Leaf l p cursor) (copy_or plan.Swap b) ≡ true
  may_fold l p cursor None = refl
  may_fold l p cursor (Some b) = refl

  may_clean : (l p : Name) (cursor : ℕ) (dirty ds : List ℕ) → may_plan (op.Live l p cursor dirty) (clean_or ds) ≡ true
  may_clean l p cursor dirty [] = refl
  may_clean l p cursor dirty (d ∷ ds) = by (nat_lt dirty_limit (length (d ∷ ds)))
    where
      by : (c : Bool) → may_plan (op.Live l p cursor dirty) (elim c as (λ _. Plan) [ true ↦ plan.Copy d | false ↦ plan.Swap ]) ≡ true
      by true = refl
      by false = refl

  may_live : (l p : Name) (cursor : ℕ) (dirty : List ℕ) (b : Option ℕ) → may_plan (op.Live l p cursor dirty) (copy_or (clean_or dirty) b) ≡ true
  may_live l p cursor dirty None = may_clean l p cursor dirty dirty
  may_live l p cursor dirty (Some b) = refl

  pub plan_may : (x : Op) → may_plan x (plan_running σ x) ≡ true
  unfolding plan_running plan_idle
  plan_may op.Idle = may_idle (find (is_garbage σ) σ.images) (find (is_loose σ) σ.images) (find (fits σ) (pairs σ)) (find (fits σ) (leaves σ)) (find (fits σ) (lives σ))
  plan_may (op.Copy v p cursor) = may_copy v p cursor (children v σ.images) (next_block cursor (table_of v σ)) refl
  plan_may (op.Relink v p) = may_link v p (children v σ.images)
  plan_may (op.Leaf l p cursor) = may_fold l p cursor (next_block cursor (table_of l σ))
  plan_may (op.Live l p cursor dirty) = may_live l p cursor dirty (next_block cursor (table_of l σ))

  -- no other step is planned
  never : {q : Plan} (x : Op) → plan_running σ x ≡ q → may_plan x q ≡ false → ⊥
  never x planned none = true≢false (sym (plan_may x) ∙ ap (may_plan x) planned ∙ none)

  -- ---- an image is removed

  -- no operation runs, and a hidden image of the name has no children
  pub record IsPlannedRemoval (x : Name) : Type 0 where
    pub idle : σ.op ≡ op.Idle
    pub image : ImageRow
    pub there : In image σ.images
    pub is_named : image.name ≡ x
    pub garbage : is_garbage σ image ≡ true

  blocks_none : (x : Name) (ps : List Pair) → blocked σ ps ≡ plan.Remove x → ⊥
  blocks_none x [] e = (let z = e in cc)
  blocks_none x (p ∷ ps) e = (let z = e in cc)

  pub removal_planned : (x : Name) → next_step σ ≡ plan.Remove x → IsPlannedRemoval x
  unfolding next_step plan_running plan_idle
  removal_planned x planned = by σ.op refl planned
    where
      found : σ.op ≡ op.Idle → (g l : Option ImageRow) (p q r : Option Pair) → find (is_garbage σ) σ.images ≡ g → idle_by g l p q r ≡ plan.Remove x → IsPlannedRemoval x
      found idle (Some i) l p q r at e =
          let w : In i σ.images × (is_garbage σ i ≡ true) = find-some (is_garbage σ) σ.images i at in
          record { idle = idle; image = i; there = w.0; is_named = (let z = e in cc); garbage = w.1 }
      found idle None (Some i) p q r at e = absurd (let z = e in cc)
      found idle None None (Some a) q r at e = absurd (let z = e in cc)
      found idle None None None (Some a) r at e = absurd (let z = e in cc)
      found idle None None None None (Some a) at e = absurd (let z = e in cc)
      found idle None None None None None at e = absurd (blocks_none x (pairs σ ++ (leaves σ ++ lives σ)) e)

      by : (y : Op) → σ.op ≡ y → plan_running σ y ≡ plan.Remove x → IsPlannedRemoval x
      by op.Idle is e = found is (find (is_garbage σ) σ.images) (find (is_loose σ) σ.images) (find (fits σ) (pairs σ)) (find (fits σ) (leaves σ)) (find (fits σ) (lives σ)) refl e
      by (op.Copy v p cursor) is e = absurd (never (op.Copy v p cursor) e refl)
      by (op.Relink v p) is e = absurd (never (op.Relink v p) e refl)
      by (op.Leaf l p cursor) is e = absurd (never (op.Leaf l p cursor) e refl)
      by (op.Live l p cursor dirty) is e = absurd (never (op.Live l p cursor dirty) e refl)

  -- ---- the shape after a step

  pub gc_shape : (q : Plan) → next_step σ ≡ q → shape_next σ Gc ≡ record (collected q σ) { sequence = risen σ.sequence (0 + plan_commits σ q) }
  unfolding shape_next shape_after commits own_commits is_given_up gives_up
  gc_shape q planned = ap (λ p. let x : Shape = record (collected p σ) { sequence = risen σ.sequence (0 + plan_commits σ p) } in x) planned

-- ---- the operation in memory ends, or is replaced by the next

module _ (s : Site) (t : VolumeTable) (m : Known) where
  pub abandon_planned : next_step (shape_in s t m) ≡ plan.Abandon → (v p : Name) × (cursor : ℕ) × (m.op ≡ op.Copy v p cursor)
  unfolding next_step shape_in
  abandon_planned planned = by m.op refl planned
    where
      by : (x : Op) → m.op ≡ x → plan_running (shape_in s t m) x ≡ plan.Abandon → (v p : Name) × (cursor : ℕ) × (m.op ≡ op.Copy v p cursor)
      by (op.Copy v p cursor) is e = (v, p, cursor, is)
      by op.Idle is e = absurd (never (shape_in s t m) op.Idle e refl)
      by (op.Relink v p) is e = absurd (never (shape_in s t m) (op.Relink v p) e refl)
      by (op.Leaf l p cursor) is e = absurd (never (shape_in s t m) (op.Leaf l p cursor) e refl)
      by (op.Live l p cursor dirty) is e = absurd (never (shape_in s t m) (op.Live l p cursor dirty) e refl)

  pub turn_planned : next_step (shape_in s t m) ≡ plan.Turn → (v p : Name) × (cursor : ℕ) × (m.op ≡ op.Copy v p cursor)
  unfolding next_step shape_in
  turn_planned planned = by m.op refl planned
    where
      by : (x : Op) → m.op ≡ x → plan_running (shape_in s t m) x ≡ plan.Turn → (v p : Name) × (cursor : ℕ) × (m.op ≡ op.Copy v p cursor)
      by (op.Copy v p cursor) is e = (v, p, cursor, is)
      by op.Idle is e = absurd (never (shape_in s t m) op.Idle e refl)
      by (op.Relink v p) is e = absurd (never (shape_in s t m) (op.Relink v p) e refl)
      by (op.Leaf l p cursor) is e = absurd (never (shape_in s t m) (op.Leaf l p cursor) e refl)
      by (op.Live l p cursor dirty) is e = absurd (never (shape_in s t m) (op.Live l p cursor dirty) e refl)

  -- and no block is left to copy
  pub none_left : (v p : Name) (cursor : ℕ) → next_step (shape_in s t m) ≡ plan.Turn → m.op ≡ op.Copy v p cursor → next_block cursor (table_of v (shape_in s t m)) ≡ None
  unfolding next_step plan_running shape_in
  none_left v p cursor planned is = copies (children v (shape_in s t m).images) (sym (ap (plan_running (shape_in s t m)) is) ∙ planned)
    where
      last : (b : Option ℕ) → copy_or plan.Turn b ≡ plan.Turn → b ≡ None
      last None e = refl
      last (Some b) e = absurd (let z = e in cc)

      copies : (is : List ImageRow) → plan_copy (shape_in s t m) v cursor is ≡ plan.Turn → next_block cursor (table_of v (shape_in s t m)) ≡ None
      copies [] e = absurd (let z = e in cc)
      copies (i ∷ is) e = last (next_block cursor (table_of v (shape_in s t m))) e

  pub finish_planned : next_step (shape_in s t m) ≡ plan.Finish → (v p : Name) × (m.op ≡ op.Relink v p)
  unfolding next_step shape_in
  finish_planned planned = by m.op refl planned
    where
      by : (x : Op) → m.op ≡ x → plan_running (shape_in s t m) x ≡ plan.Finish → (v p : Name) × (m.op ≡ op.Relink v p)
      by (op.Relink v p) is e = (v, p, is)
      by op.Idle is e = absurd (never (shape_in s t m) op.Idle e refl)
      by (op.Copy v p cursor) is e = absurd (never (shape_in s t m) (op.Copy v p cursor) e refl)
      by (op.Leaf l p cursor) is e = absurd (never (shape_in s t m) (op.Leaf l p cursor) e refl)
      by (op.Live l p cursor dirty) is e = absurd (never (shape_in s t m) (op.Live l p cursor dirty) e refl)
