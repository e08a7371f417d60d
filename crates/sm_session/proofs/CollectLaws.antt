-- What the collector's next step says of the operation, which steps there are, and what is told of them.
use Rattle.std.proofs.Common.{◌≡◌, ◌⊎◌, inl, inr, ℕ, ◌^◌, ◌<◌, nat_lt, length, Bool, true, false, List, [], ◌∷◌, ◌++◌, Option, Some, None, Result, OnOk, refl, sym, ap, ◌∙◌, subst, arith}
use Rattle.std.specs.List.{find}
use Rattle.std.proofs.lemmas.Bool.{true≢false, le-ltb}
use Rattle.std.proofs.Math.Logic.{∥∥₁_map}
use Rattle.std.proofs.lemmas.Result.{on_ok_weaker}
use Rattle.common_laws.specs.Lists.{first_some, given}
use Rattle.sm_base.specs.declared.names.Name.{Name}
use Rattle.sm_machine.specs.Operations.{Op, dirty_limit, told}
use Rattle.sm_machine.specs.Operations as op
use Rattle.sm_base.specs.declared.operations.Plan.{Plan}
use Rattle.sm_base.specs.declared.operations.Plan.TheVariants as plan
use Rattle.sm_base.specs.declared.refusals.Refusal.TheVariants.{NoSpace}
use Rattle.sm_machine.specs.Collector.{IsLess, Pair, blocked, clean_or, collected, copy_or, debt, fits, is_garbage, is_loose, leaves, lives, next_block, next_step, pairs, plan_copy, plan_idle, plan_running, relink_or, table_of, target}
use Rattle.sm_machine.specs.Commits.{gives_up, is_given_up, own_commits, plan_commits}
use Rattle.sm_machine.specs.Laws.{is_working}
use Rattle.sm_machine.specs.Refusals.{refusal, is_reserved, is_unknown, is_taken, is_in_use, is_not_attached, is_read_only, is_raw_disk, is_tracked, is_untracked, is_out_of_range, is_bad_size, is_shrink, is_deep, is_too_many, is_spent, lacks_space, need, named, new_uuid, forked}
use Rattle.sm_machine.specs.Shapes.{ImageRow, Shape, children, free, thin_in, top}
use Rattle.sm_machine.specs.Steps.{Outcome, State, accepted, disks_next, reply_to, shape_after, shape_next, step}
use Rattle.sm_machine.specs.WellFormed.{IsWellFormed}
use Rattle.sm_machine.specs.declared.commands.Command.TheVariants.{Gc}
use Rattle.sm_machine.proofs.Debts.{step_lowers}
use Rattle.gc_coalesce.specs.Copying.{copying}
use Rattle.sm_ready.proofs.TakenLaws.{step_accepted, step_still}
use Rattle.sm_run.specs.Runs.{begins}

-- no cause refuses a step of the collector
pub never_refused : (s : Shape) → refusal s Gc ≡ None
unfolding refusal is_reserved is_unknown is_taken is_in_use is_not_attached is_read_only is_raw_disk is_tracked is_untracked is_out_of_range is_bad_size is_shrink is_deep is_too_many is_spent lacks_space need named new_uuid forked
never_refused s = ap (λ b. first_some (given b (NoSpace 0 (free s)) ∷ [])) (le-ltb (free s) 0 (omega arith))

-- ---- the operation of a step

-- blocks are copied while an operation copies
abbrev Goes : Op → Plan → Type 0
Goes o (plan.Copy b) = copying o ≡ true
Goes o _ = Unit {0}

goes_running : (s : Shape) (o : Op) → Goes o (plan_running s o)
unfolding plan_running plan_idle
goes_running s op.Idle = by_rules (find (is_garbage s) s.images) (find (is_loose s) s.images) (find (fits s) (pairs s)) (find (fits s) (leaves s)) (find (fits s) (lives s))
  where
    rests : (ps : List Pair) → Goes op.Idle (blocked s ps)
    rests [] = tt
    rests (p ∷ ps) = tt

    idle_by : Option ImageRow → Option ImageRow → Option Pair → Option Pair → Option Pair → Plan
    idle_by g l p q x = elim g [
      | Some i ↦ plan.Remove i.name
      | None ↦ elim l [
        | Some i ↦ plan.Deflate i.name (thin_in s (top i.slots))
        | None ↦ elim p [
          | Some a ↦ plan.Begin a.child.name a.parent.name (target s a)
          | None ↦ elim q [
            | Some a ↦ plan.Leaf a.child.name a.parent.name (target s a)
            | None ↦ elim x [ Some a ↦ plan.Live a.child.name a.parent.name (target s a) | None ↦ blocked s (pairs s ++ (leaves s ++ lives s)) ]
          ]
        ]
      ]
    ]

    by_rules : (g l : Option ImageRow) (p q x : Option Pair) → Goes op.Idle (idle_by g l p q x)
    by_rules (Some i) l p q x = tt
    by_rules None (Some i) p q x = tt
    by_rules None None (Some a) q x = tt
    by_rules None None None (Some a) x = tt
    by_rules None None None None (Some a) = tt
    by_rules None None None None None = rests (pairs s ++ (leaves s ++ lives s))
goes_running s (op.Copy v p cursor) = by (children v s.images)
  where
    copies : (o : Option ℕ) → Goes (op.Copy v p cursor) (copy_or plan.Turn o)
    copies None = tt
    copies (Some b) = refl

    by : (cs : List ImageRow) → Goes (op.Copy v p cursor) (plan_copy s v cursor cs)
    by [] = tt
    by (c ∷ cs) = copies (next_block cursor (table_of v s))
goes_running s (op.Relink v p) = by (children v s.images)
  where
    by : (cs : List ImageRow) → Goes (op.Relink v p) (relink_or cs)
    by [] = tt
    by (c ∷ cs) = tt
goes_running s (op.Leaf l p cursor) = copies (next_block cursor (table_of l s))
  where
    copies : (o : Option ℕ) → Goes (op.Leaf l p cursor) (copy_or plan.Swap o)
    copies None = tt
    copies (Some b) = refl
goes_running s (op.Live l p cursor dirty) = copies (next_block cursor (table_of l s))
  where
    cleans : (bs : List ℕ) → Goes (op.Live l p cursor dirty) (clean_or bs)
    cleans [] = tt
    cleans (b ∷ bs) = by (nat_lt dirty_limit (length (b ∷ bs)))
      where
        by : (c : Bool) → Goes (op.Live l p cursor dirty) (elim c as (λ _. Plan) [ true ↦ plan.Copy b | false ↦ plan.Swap ])
        by true = refl
        by false = tt

    copies : (o : Option ℕ) → Goes (op.Live l p cursor dirty) (copy_or (clean_or dirty) o)
    copies None = cleans dirty
    copies (Some b) = refl

goes : (s : Shape) (q : Plan) → next_step s ≡ q → Goes s.op q
unfolding next_step
goes s q planned = subst (Goes s.op) planned (goes_running s s.op)

pub copy_runs : (s : Shape) (b : ℕ) → next_step s ≡ plan.Copy b → copying s.op ≡ true
copy_runs s b planned = goes s (plan.Copy b) planned

-- ---- which steps there are

-- a step of another kind does something
pub others_work : (q : Plan) → ((needed room : ℕ) → q ≡ plan.Blocked needed room → ⊥) → (q ≡ plan.Idle → ⊥) → is_working q ≡ true
others_work (plan.Blocked needed room) no_blocked no_idle = absurd (no_blocked needed room refl)
others_work plan.Idle no_blocked no_idle = absurd (no_idle refl)
others_work _ no_blocked no_idle = refl

-- and begins nothing
pub others_spare : (q : Plan) → ((child parent : Name) (to : ℕ) → q ≡ plan.Begin child parent to → ⊥) → ((leaf parent : Name) (to : ℕ) → q ≡ plan.Leaf leaf parent to → ⊥)
    → ((leaf parent : Name) (to : ℕ) → q ≡ plan.Live leaf parent to → ⊥) → begins q ≡ false
unfolding begins
others_spare (plan.Begin child parent to) no_begin no_leaf no_live = absurd (no_begin child parent to refl)
others_spare (plan.Leaf leaf parent to) no_begin no_leaf no_live = absurd (no_leaf leaf parent to refl)
others_spare (plan.Live leaf parent to) no_begin no_leaf no_live = absurd (no_live leaf parent to refl)
others_spare _ no_begin no_leaf no_live = refl

-- it is three that begin
pub starts : (q : Plan) → ((child : Name) × (parent : Name) × (to : ℕ) × (q ≡ plan.Begin child parent to))
    ⊎ (((leaf : Name) × (parent : Name) × (to : ℕ) × (q ≡ plan.Leaf leaf parent to)) ⊎ ((leaf : Name) × (parent : Name) × (to : ℕ) × (q ≡ plan.Live leaf parent to))) → begins q ≡ true
unfolding begins
starts q (inl is) = ap begins is.3
starts q (inr (inl is)) = ap begins is.3
starts q (inr (inr is)) = ap begins is.3

-- one that begins is one of them
pub three_begin : (q : Plan) → begins q ≡ true → ((child parent : Name) (to : ℕ) → q ≡ plan.Begin child parent to → ⊥) → ((leaf parent : Name) (to : ℕ) → q ≡ plan.Leaf leaf parent to → ⊥)
    → ((leaf parent : Name) (to : ℕ) → q ≡ plan.Live leaf parent to → ⊥) → ⊥
three_begin q begun no_begin no_leaf no_live = true≢false (sym begun ∙ others_spare q no_begin no_leaf no_live)

-- a step that does something and begins nothing is one of eight
pub eight_work : (q : Plan) → is_working q ≡ true → begins q ≡ false
    → ((name : Name) → q ≡ plan.Remove name → ⊥) → ((name : Name) (to : ℕ) → q ≡ plan.Deflate name to → ⊥) → ((b : ℕ) → q ≡ plan.Copy b → ⊥) → (q ≡ plan.Turn → ⊥)
    → ((child : Name) → q ≡ plan.RelinkOne child → ⊥)
    → (q ≡ plan.Finish → ⊥) → (q ≡ plan.Swap → ⊥) → (q ≡ plan.Abandon → ⊥) → ⊥
unfolding begins
eight_work (plan.Remove name) working no_begin re de co tu li fi sw ab = re name refl
eight_work (plan.Deflate name to) working no_begin re de co tu li fi sw ab = de name to refl
eight_work (plan.Copy b) working no_begin re de co tu li fi sw ab = co b refl
eight_work plan.Turn working no_begin re de co tu li fi sw ab = tu refl
eight_work (plan.RelinkOne child) working no_begin re de co tu li fi sw ab = li child refl
eight_work plan.Finish working no_begin re de co tu li fi sw ab = fi refl
eight_work plan.Swap working no_begin re de co tu li fi sw ab = sw refl
eight_work plan.Abandon working no_begin re de co tu li fi sw ab = ab refl
eight_work (plan.Begin child parent to) working no_begin re de co tu li fi sw ab = true≢false no_begin
eight_work (plan.Leaf leaf parent to) working no_begin re de co tu li fi sw ab = true≢false no_begin
eight_work (plan.Live leaf parent to) working no_begin re de co tu li fi sw ab = true≢false no_begin
eight_work (plan.Blocked needed room) working no_begin re de co tu li fi sw ab = true≢false (sym working)
eight_work plan.Idle working no_begin re de co tu li fi sw ab = true≢false (sym working)

-- ---- what a step does

rests_shape : (s : Shape) (q : Plan) → is_working q ≡ false → collected q s ≡ s
unfolding collected
rests_shape s (plan.Blocked needed room) rests = refl
rests_shape s plan.Idle rests = refl
rests_shape s _ rests = absurd (true≢false rests)

rests_commits : (s : Shape) (q : Plan) → is_working q ≡ false → plan_commits s q ≡ 0
unfolding plan_commits
rests_commits s (plan.Blocked needed room) rests = refl
rests_commits s plan.Idle rests = refl
rests_commits s _ rests = absurd (true≢false rests)

-- it is the blocked and the idle one that do nothing
pub rests : (q : Plan) → ((needed : ℕ) × (room : ℕ) × (q ≡ plan.Blocked needed room)) ⊎ (q ≡ plan.Idle) → is_working q ≡ false
rests q (inl is) = ap is_working is.2
rests q (inr is) = ap is_working is

-- one that does nothing leaves the state
pub gc_rests : (σ : State) → σ.shape.sequence < 2 ^ 48 → is_working (next_step σ.shape) ≡ false → (step σ Gc).after ≡ σ
unfolding disks_next shape_after own_commits is_given_up gives_up
gc_rests σ few rests = step_still σ Gc (never_refused σ.shape) few refl (rests_shape σ.shape (next_step σ.shape) rests) refl (rests_commits σ.shape (next_step σ.shape) rests)

-- each is answered with itself and the operation from before
pub gc_reply : (σ : State) → (step σ Gc).reply ≡ reply_to σ.disks σ.shape Gc
unfolding accepted
gc_reply σ = ap (λ (o : Outcome). o.reply) (step_accepted σ Gc (never_refused σ.shape))

-- one that does something lowers the debt
pub gc_lowers : (s t : Shape) → ∥ IsWellFormed s ∥₁ → t ≡ shape_next s Gc → is_working (next_step s) ≡ true → ∥ IsLess (debt t) (debt s) ∥₁
gc_lowers s t well shaped working = ∥∥₁_map well (λ w. subst (λ x. IsLess (debt x) (debt s)) (sym shaped) (step_lowers s w working))

-- so does a call that leaves the machine's shape where it succeeds
pub work_lowers : {A E : Type 0} (s t : Shape) → ∥ IsWellFormed s ∥₁ → is_working (next_step s) ≡ true → (r : Result A E) → OnOk r (t ≡ shape_next s Gc) → OnOk r (∥ IsLess (debt t) (debt s) ∥₁)
work_lowers s t well working r shaped = on_ok_weaker r (λ is. gc_lowers s t well is working) shaped
