-- A child is linked next: only while a relink runs, and it is one of the image's children.
use Rattle.std.proofs.Common.{◌≡◌, nat_lt, Bool, true, false, List, [], ◌∷◌, ◌++◌, length, ℕ, Option, None, Some, refl, sym, ap, ◌∙◌, subst, inl}
use Rattle.std.specs.List.{find}
use Rattle.common_laws.specs.Lists.{In}
use Rattle.common_laws.proofs.Lists.{In-filter}
use Rattle.sm_base.specs.declared.names.Name.{Name}
use Rattle.sm_machine.specs.Operations.{Op, dirty_limit}
use Rattle.sm_machine.specs.Operations as op
use Rattle.sm_base.specs.declared.operations.Plan.{Plan}
use Rattle.sm_base.specs.declared.operations.Plan.TheVariants as plan
use Rattle.sm_machine.specs.Collector.{Pair, blocked, clean_or, copy_or, fits, is_garbage, is_loose, leaves, lives, next_block, next_step, pairs, plan_copy, plan_idle, plan_running, relink_or, table_of, target}
use Rattle.sm_machine.specs.Shapes.{ImageRow, Shape, children, is_parent, thin_in, top}
use Rattle.sm_machine.proofs.ImageNames.{same_image-sound}

blocked_links : (s : Shape) (ps : List Pair) (c : Name) → blocked s ps ≡ plan.RelinkOne c → ⊥
blocked_links s [] c e = (let x = e in cc)
blocked_links s (p ∷ ps) c e = (let x = e in cc)

idle_links : (s : Shape) (g l : Option ImageRow) (p q r : Option Pair) (c : Name)
    → elim g [
      | Some i ↦ plan.Remove i.name
      | None ↦ elim l [
        | Some i ↦ plan.Deflate i.name (thin_in s (top i.slots))
        | None ↦ elim p [
          | Some a ↦ plan.Begin a.child.name a.parent.name (target s a)
          | None ↦ elim q [
            | Some a ↦ plan.Leaf a.child.name a.parent.name (target s a)
            | None ↦ elim r [ Some a ↦ plan.Live a.child.name a.parent.name (target s a) | None ↦ blocked s (pairs s ++ (leaves s ++ lives s)) ]
          ]
        ]
      ]
    ] ≡ plan.RelinkOne c → ⊥
idle_links s (Some i) l p q r c e = (let x = e in cc)
idle_links s None (Some i) p q r c e = (let x = e in cc)
idle_links s None None (Some a) q r c e = (let x = e in cc)
idle_links s None None None (Some a) r c e = (let x = e in cc)
idle_links s None None None None (Some a) c e = (let x = e in cc)
idle_links s None None None None None c e = blocked_links s (pairs s ++ (leaves s ++ lives s)) c e

block_links : (o : Option ℕ) (done : Plan) (c : Name) → (done ≡ plan.RelinkOne c → ⊥) → copy_or done o ≡ plan.RelinkOne c → ⊥
block_links None done c not e = not e
block_links (Some b) done c not e = (let x = e in cc)

copy_links : (s : Shape) (v : Name) (cursor : ℕ) (is : List ImageRow) (c : Name) → plan_copy s v cursor is ≡ plan.RelinkOne c → ⊥
copy_links s v cursor [] c e = (let x = e in cc)
copy_links s v cursor (i ∷ is) c e = block_links (next_block cursor (table_of v s)) plan.Turn c (λ t. let x = t in cc) e

clean_links : (dirty : List ℕ) (c : Name) → clean_or dirty ≡ plan.RelinkOne c → ⊥
clean_links [] c e = (let x = e in cc)
clean_links (d ∷ ds) c e = by (nat_lt dirty_limit (length (d ∷ ds))) e
  where
    by : (b : Bool) → elim b as (λ _. Plan) [ true ↦ plan.Copy d | false ↦ plan.Swap ] ≡ plan.RelinkOne c → ⊥
    by true e = (let x = e in cc)
    by false e = (let x = e in cc)

-- a relink runs
links_only : (s : Shape) (o : Op) (c : Name) → plan_running s o ≡ plan.RelinkOne c → ((v p : Name) → o ≡ op.Relink v p → ⊥) → ⊥
unfolding plan_running plan_idle
links_only s op.Idle c e none = idle_links s (find (is_garbage s) s.images) (find (is_loose s) s.images) (find (fits s) (pairs s)) (find (fits s) (leaves s)) (find (fits s) (lives s)) c e
links_only s (op.Copy v p cursor) c e none = copy_links s v cursor (children v s.images) c e
links_only s (op.Relink v p) c e none = none v p refl
links_only s (op.Leaf l p cursor) c e none = block_links (next_block cursor (table_of l s)) plan.Swap c (λ t. let x = t in cc) e
links_only s (op.Live l p cursor dirty) c e none = block_links (next_block cursor (table_of l s)) (clean_or dirty) c (λ t. clean_links dirty c t) e

pub relink_runs : (s : Shape) (c : Name) → next_step s ≡ plan.RelinkOne c → ((v p : Name) → s.op ≡ op.Relink v p → ⊥) → ⊥
unfolding next_step
relink_runs s c next none = links_only s s.op c next none

-- and the child is one of the image's
pub record IsChildRow (s : Shape) (v c : Name) : Type 0 where
  pub row : ImageRow
  pub there : In row s.images
  pub named : row.name ≡ c
  pub linked : row.parent ≡ Some v

parent_named : (n : Name) (o : Option Name) → is_parent n o ≡ true → o ≡ Some n
parent_named n None e = (let x = e in cc)
parent_named n (Some m) e = ap Some (same_image-sound m n e)

first_child : (s : Shape) (v c : Name) (is : List ImageRow) → children v s.images ≡ is → relink_or is ≡ plan.RelinkOne c → IsChildRow s v c
unfolding children
first_child s v c [] e next = absurd (let x = next in cc)
first_child s v c (i ∷ is) e next =
    let front = In-filter (λ (x : ImageRow). is_parent v x.parent) s.images i (subst (λ (xs : List ImageRow). In i xs) (sym e) (inl refl)) in
    record { row = i; there = front.0; named = (let x = next in cc); linked = parent_named v i.parent front.1 }

pub child_next : (s : Shape) (v p c : Name) → s.op ≡ op.Relink v p → next_step s ≡ plan.RelinkOne c → IsChildRow s v c
unfolding next_step plan_running
child_next s v p c is next = first_child s v c (children v s.images) refl (sym (ap (plan_running s) is) ∙ next)
