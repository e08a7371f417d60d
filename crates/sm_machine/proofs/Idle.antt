-- What follows where the collector's next step is idle.
use Rattle.std.proofs.Common.{◌≡◌, ℕ, Bool, true, false, List, [], ◌∷◌, ◌++◌, length, nat_lt, Option, Some, None, refl}
use Rattle.sm_machine.specs.Operations.{dirty_limit}
use Rattle.std.specs.List.{find}
use Rattle.sm_machine.specs.Operations.{Op}
use Rattle.sm_machine.specs.Operations as op
use Rattle.sm_base.specs.declared.operations.Plan.{Plan}
use Rattle.sm_base.specs.declared.operations.Plan.TheVariants as plan
use Rattle.sm_machine.specs.Shapes.{Shape, ImageRow, top, thin_in}
use Rattle.sm_machine.specs.Collector.{Pair, next_step, plan_running, plan_idle, plan_copy, copy_or, relink_or, blocked, is_garbage, is_loose, clean_or, pairs, leaves, lives, fits, target}
use Rattle.sm_machine.specs.Laws.{IsDone}
use Rattle.common_laws.proofs.Lists.{list_any-find}

blocked_idle : (s : Shape) (ps : List Pair) → blocked s ps ≡ plan.Idle → ps ≡ []
blocked_idle s [] e = refl
blocked_idle s (p ∷ ps) e = cc

append_nil : {A : Type 0} (xs ys : List A) → xs ++ ys ≡ [] → (xs ≡ []) × (ys ≡ [])
append_nil [] ys e = (refl, e)
append_nil (x ∷ xs) ys e = cc

record Nothing (s : Shape) : Type 0 where
  garbage : find (is_garbage s) s.images ≡ None
  loose : find (is_loose s) s.images ≡ None
  rest : pairs s ++ (leaves s ++ lives s) ≡ []

rules : (s : Shape) (g l : Option ImageRow) (p q r : Option Pair) → find (is_garbage s) s.images ≡ g → find (is_loose s) s.images ≡ l
    → elim g [ Some i ↦ plan.Remove i.name | None ↦ elim l [ Some i ↦ plan.Deflate i.name (thin_in s (top i.slots)) | None ↦ elim p [ Some p ↦ plan.Begin p.child.name p.parent.name (target s p) | None ↦ elim q [ Some p ↦ plan.Leaf p.child.name p.parent.name (target s p) | None ↦ elim r [ Some p ↦ plan.Live p.child.name p.parent.name (target s p) | None ↦ blocked s (pairs s ++ (leaves s ++ lives s)) ] ] ] ] ] ≡ plan.Idle → Nothing s
rules s (Some i) l p q r a b e = cc
rules s None (Some i) p q r a b e = cc
rules s None None (Some p) q r a b e = cc
rules s None None None (Some q) r a b e = cc
rules s None None None None (Some r) a b e = cc
rules s None None None None None a b e = record { garbage = a; loose = b; rest = blocked_idle s (pairs s ++ (leaves s ++ lives s)) e }

idle_done : (s : Shape) → plan_idle s ≡ plan.Idle → s.op ≡ op.Idle → IsDone s
unfolding plan_idle
idle_done s e o = let n : Nothing s = rules s (find (is_garbage s) s.images) (find (is_loose s) s.images) (find (fits s) (pairs s)) (find (fits s) (leaves s)) (find (fits s) (lives s)) refl refl e in
    let both : (pairs s ≡ []) × (leaves s ++ lives s ≡ []) = append_nil (pairs s) (leaves s ++ lives s) n.rest in
    let last : (leaves s ≡ []) × (lives s ≡ []) = append_nil (leaves s) (lives s) both.1 in
    record { no_operation = o; no_garbage = list_any-find (is_garbage s) s.images n.garbage; none_loose = list_any-find (is_loose s) s.images n.loose; no_pair = both.0; no_leaf = last.0; no_live = last.1 }

copy_done : (d : Plan) (b : Option ℕ) → copy_or d b ≡ plan.Idle → (d ≡ plan.Idle)
copy_done d None e = e
copy_done d (Some b) e = cc

copy_runs : (s : Shape) (n : _) (cursor : ℕ) (is : List ImageRow) → plan_copy s n cursor is ≡ plan.Idle → ⊥
copy_runs s n cursor [] e = cc
copy_runs s n cursor (i ∷ is) e = let d : plan.Turn ≡ plan.Idle = copy_done plan.Turn _ e in cc

relink_runs : (is : List ImageRow) → relink_or is ≡ plan.Idle → ⊥
relink_runs [] e = cc
relink_runs (i ∷ is) e = cc

clean_runs : (dirty : List ℕ) → clean_or dirty ≡ plan.Idle → ⊥
clean_runs [] e = cc
clean_runs (b ∷ dirty) e = by (nat_lt dirty_limit (length (b ∷ dirty))) e
  where
    by : (c : Bool) → elim c as (λ _. Plan) [ true ↦ plan.Copy b | false ↦ plan.Swap ] ≡ plan.Idle → ⊥
    by true e = cc
    by false e = cc

running : (s : Shape) (o : Op) → s.op ≡ o → plan_running s o ≡ plan.Idle → IsDone s
unfolding plan_running
running s op.Idle e p = idle_done s p e
running s (op.Copy v q cursor) e p = absurd (copy_runs s v cursor _ p)
running s (op.Relink v q) e p = absurd (relink_runs _ p)
running s (op.Live l q cursor dirty) e p = absurd (clean_runs dirty (copy_done (clean_or dirty) _ p))
running s (op.Leaf l q cursor) e p = let d : plan.Swap ≡ plan.Idle = copy_done plan.Swap _ p in cc

pub idle : (s : Shape) → next_step s ≡ plan.Idle → IsDone s
unfolding next_step
idle s p = running s s.op refl p
