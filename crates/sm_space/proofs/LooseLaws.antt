-- Where the collector plans to cut an image, it may be cut, and the shape behind it is the machine's after the step.
use Rattle.std.proofs.Common.{◌≡◌, ℕ, ◌+◌, ◌&&◌, not, Bool, true, false, nat_lt, List, [], ◌∷◌, ◌++◌, length, Option, Some, None, refl, ap, arith, subst}
use Rattle.std.specs.List.{find}
use Rattle.std.proofs.lemmas.Bool.{and_parts, ltb-true}
use Rattle.common_laws.specs.Lists.{In}
use Rattle.common_laws.proofs.Booleans.{not_true}
use Rattle.common_laws.proofs.Lists.{find-some}
use Rattle.sm_base.specs.declared.names.Name.{Name}
use Rattle.sm_machine.specs.Operations.{Op, dirty_limit}
use Rattle.sm_machine.specs.Operations as op
use Rattle.sm_base.specs.declared.operations.Plan.{Plan}
use Rattle.sm_base.specs.declared.operations.Plan.TheVariants as plan
use Rattle.sm_machine.specs.Collector.{Pair, blocked, collected, clean_or, copy_or, fits, is_garbage, is_loose, is_written, leaves, lives, next_block, next_step, pairs, plan_copy, plan_idle, plan_running, relink_or, table_of, target}
use Rattle.sm_machine.specs.Commits.{commits, gives_up, is_given_up, own_commits, plan_commits}
use Rattle.sm_machine.specs.Shapes.{ImageRow, Shape, children, is_vhd, risen, thin_in, top}
use Rattle.sm_machine.specs.Steps.{shape_after, shape_next}
use Rattle.sm_machine.specs.declared.commands.Command.TheVariants.{Gc}
use Rattle.sm_space.specs.Deflating.{CanDeflate, deflated}

-- a VHD image that has more extents than its slots need, and is not being written to
loose_can : (s : Shape) (i : ImageRow) → In i s.images → is_loose s i ≡ true → s.op ≡ op.Idle → CanDeflate s i.name (thin_in s (top i.slots)) × (is_vhd i.name ≡ true)
loose_can s i there loose idle =
    let outer = and_parts (is_vhd i.name && not (is_written s i)) (nat_lt (thin_in s (top i.slots)) i.extents) loose in
    let inner = and_parts (is_vhd i.name) (not (is_written s i)) outer.0 in (
      record {
        image = i;
        there = there;
        named = refl;
        room = omega arith;
        fewer = ltb-true (thin_in s (top i.slots)) i.extents outer.1;
        unwritten = not_true (is_written s i) inner.1;
        idle = idle;
      },
      inner.0,
    )

-- what a plan says of a cut
abbrev Says : Shape → Plan → Type 0
Says s (plan.Deflate n to) = CanDeflate s n to × (is_vhd n ≡ true)
Says s _ = Unit {0}

copies : (s : Shape) (done : Plan) (o : Option ℕ) → Says s done → Says s (copy_or done o)
copies s done None is = is
copies s done (Some b) is = tt

says_running : (s : Shape) (o : Op) → s.op ≡ o → Says s (plan_running s o)
unfolding plan_running plan_idle
says_running s op.Idle idle = by_rules (find (is_garbage s) s.images) (find (is_loose s) s.images) (find (fits s) (pairs s)) (find (fits s) (leaves s)) (find (fits s) (lives s)) refl
  where
    rests : (ps : List Pair) → Says s (blocked s ps)
    rests [] = tt
    rests (p ∷ ps) = tt

    idle_by : Option ImageRow → Option ImageRow → Option Pair → Option Pair → Option Pair → Plan
    idle_by g l p q r = elim g [
      | Some i ↦ plan.Remove i.name
      | None ↦ elim l [
        | Some i ↦ plan.Deflate i.name (thin_in s (top i.slots))
        | None ↦ elim p [
          | Some a ↦ plan.Begin a.child.name a.parent.name (target s a)
          | None ↦ elim q [
            | Some a ↦ plan.Leaf a.child.name a.parent.name (target s a)
            | None ↦ elim r [ Some a ↦ plan.Live a.child.name a.parent.name (target s a) | None ↦ blocked s (pairs s ++ (leaves s ++ lives s)) ]
          ]
        ]
      ]
    ]

    by_rules : (g l : Option ImageRow) (p q r : Option Pair) → find (is_loose s) s.images ≡ l → Says s (idle_by g l p q r)
    by_rules (Some i) l p q r found = tt
    by_rules None (Some i) p q r found = let f = find-some (is_loose s) s.images i found in loose_can s i f.0 f.1 idle
    by_rules None None (Some a) q r found = tt
    by_rules None None None (Some a) r found = tt
    by_rules None None None None (Some a) found = tt
    by_rules None None None None None found = rests (pairs s ++ (leaves s ++ lives s))
says_running s (op.Copy v p cursor) is = by (children v s.images)
  where
    by : (cs : List ImageRow) → Says s (plan_copy s v cursor cs)
    by [] = tt
    by (c ∷ cs) = copies s plan.Turn (next_block cursor (table_of v s)) tt
says_running s (op.Relink v p) is = by (children v s.images)
  where
    by : (cs : List ImageRow) → Says s (relink_or cs)
    by [] = tt
    by (c ∷ cs) = tt
says_running s (op.Leaf l p cursor) is = copies s plan.Swap (next_block cursor (table_of l s)) tt
says_running s (op.Live l p cursor dirty) is = copies s (clean_or dirty) (next_block cursor (table_of l s)) (by dirty)
  where
    cleans : (b : ℕ) (many : Bool) → Says s (elim many as (λ _. Plan) [ true ↦ plan.Copy b | false ↦ plan.Swap ])
    cleans b true = tt
    cleans b false = tt

    by : (dirty : List ℕ) → Says s (clean_or dirty)
    by [] = tt
    by (b ∷ bs) = cleans b (nat_lt dirty_limit (length (b ∷ bs)))

-- it is a VHD image, and may be cut
pub planned_cut : (s : Shape) (n : Name) (to : ℕ) → next_step s ≡ plan.Deflate n to → CanDeflate s n to × (is_vhd n ≡ true)
unfolding next_step
planned_cut s n to is = subst (Says s) is (says_running s s.op refl)

pub shape_planned : (s : Shape) (n : Name) (to : ℕ) → next_step s ≡ plan.Deflate n to → shape_next s Gc ≡ deflated n to s
unfolding shape_next shape_after commits own_commits plan_commits is_given_up gives_up
shape_planned s n to is = ap (λ p. let x : Shape = record (collected p s) { sequence = risen s.sequence (0 + plan_commits s p) } in x) is
