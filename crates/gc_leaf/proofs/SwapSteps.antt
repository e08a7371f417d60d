-- What is known where the machine's next step is a swap and no block is dirty: the operation folds a leaf, attached or not, and no block is left to copy.
use Rattle.std.proofs.Common.{◌≡◌, ℕ, Bool, true, false, List, [], ◌∷◌, length, Option, Some, None, refl, sym, ap, ◌∙◌, subst}
use Rattle.std.proofs.Math.Logic.{∥∥₁_elim}
use Rattle.std.proofs.Props.{props}
use Rattle.std.proofs.lemmas.Bool.{true≢false}
use Rattle.sm_base.specs.declared.names.Name.{Name}
use Rattle.sm_base.specs.declared.names.Name.TheVariants.{Leaf}
use Rattle.sm_base.specs.declared.operations.Op.{Op as Told}
use Rattle.sm_base.specs.declared.operations.Op.TheVariants as as_told
use Rattle.sm_machine.specs.Operations.{Op, told}
use Rattle.sm_machine.specs.Operations as op
use Rattle.sm_base.specs.declared.operations.Plan.{Plan}
use Rattle.sm_base.specs.declared.operations.Plan.TheVariants as plan
use Rattle.vg_meta.specs.Tables.{VolumeTable}
use Rattle.vg_volumes.specs.Sites.{Site}
use Rattle.sm_machine.specs.Collector.{as_leaf, copy_or, given_blocks, next_block, next_step, plan_running, swapped as swapped_shape, table_of, with_found}
use Rattle.sm_machine.specs.Shapes.{Shape, attached_as, find_image, image_uuid, is_vhd, without_image}
use Rattle.sm_machine.specs.WellFormed.{IsOnlyChild, IsOperation}
use Rattle.sm_machine.proofs.Told.{told_leaf, told_live}
use Rattle.sm_operation.specs.Kept.{dirty_in}
use Rattle.sm_refs.specs.Attached.{Attached}
use Rattle.sm_standing.specs.Contents.{Content}
use Rattle.sm_ready.specs.Known.{Known, entry_of, shape_in}
use Rattle.sm_ready.specs.Orderly.{IsOrderly}
use Rattle.sm_ready.specs.Ready.{IsBelow, IsHeldBelow, IsTidy}
use Rattle.gc_coalesce.proofs.PlannedLaws.{may_plan, plan_may}
use Rattle.gc_leaf.specs.Swapping.{CountsAs, IsFoldingOf, folding_of, is_folding}

-- no other step is planned
never : (σ : Shape) {q : Plan} (x : Op) → plan_running σ x ≡ q → may_plan x q ≡ false → ⊥
never σ x planned none = true≢false (sym (plan_may σ x) ∙ ap (may_plan x) planned ∙ none)

-- ---- the folding of a leaf, attached or not

pub leaf_told : (o : Op) (l p : Name) (cursor : ℕ) → told o ≡ as_told.Leaf l p cursor → IsFoldingOf o l p
leaf_told o l p cursor is = (false, cursor, [], told_leaf l p cursor o is)

pub live_told : (o : Op) (l p : Name) (cursor dirty : ℕ) → told o ≡ as_told.Live l p cursor dirty → IsFoldingOf o l p
live_told o l p cursor dirty is = let w = told_live l p cursor dirty o is in (true, cursor, w.0, w.1)

abbrev told_folding : Told → Bool
told_folding as_told.Idle = false
told_folding (as_told.Copy v p cursor) = false
told_folding (as_told.Relink v p) = false
told_folding (as_told.Leaf l p cursor) = true
told_folding (as_told.Live l p cursor dirty) = true

folding_told : (o : Op) → told_folding (told o) ≡ is_folding o
unfolding told
folding_told op.Idle = refl
folding_told (op.Copy v p cursor) = refl
folding_told (op.Relink v p) = refl
folding_told (op.Leaf l p cursor) = refl
folding_told (op.Live l p cursor dirty) = refl

-- it is told to be one
pub never_told : (o : Op) (x : Told) → is_folding o ≡ true → told o ≡ x → told_folding x ≡ false → ⊥
never_told o x folds is none = true≢false (sym folds ∙ sym (folding_told o) ∙ ap told_folding is ∙ none)

-- the attachments where it is told that no attached leaf is folded
pub counts_other : (o : Op) (p : Name) (a : Attached) → ((l q : Name) (cursor dirty : ℕ) → told o ≡ as_told.Live l q cursor dirty → ⊥) → CountsAs o p a a
unfolding told
counts_other op.Idle p a never = refl
counts_other (op.Copy v q cursor) p a never = refl
counts_other (op.Relink v q) p a never = refl
counts_other (op.Leaf l q cursor) p a never = refl
counts_other (op.Live l q cursor dirty) p a never = absurd (never l q cursor (length dirty) refl)

pub only_of : (σ : Shape) (attached : Bool) (l p : Name) (cursor : ℕ) (dirty : List ℕ) → IsOperation σ (folding_of attached l p cursor dirty) → IsOnlyChild σ false l p
only_of σ true l p cursor dirty h = h.only
only_of σ false l p cursor dirty h = h.0

pub vhd_of : (σ : Shape) (attached : Bool) (l p : Name) (cursor : ℕ) (dirty : List ℕ) → IsOperation σ (folding_of attached l p cursor dirty) → is_vhd p ≡ true
vhd_of σ true l p cursor dirty h = h.parent_vhd
vhd_of σ false l p cursor dirty h = h.1

pub free_of : (σ : Shape) (l p : Name) (cursor : ℕ) (dirty : List ℕ) → IsOperation σ (folding_of false l p cursor dirty) → attached_as (image_uuid l) σ ≡ None
free_of σ l p cursor dirty h = h.2

pub below_of : (c : Content) (attached : Bool) (l p : Name) (cursor : ℕ) (dirty : List ℕ) → dirty ≡ [] → IsBelow c (folding_of attached l p cursor dirty) → IsHeldBelow c l p cursor []
below_of c true l p cursor dirty clean h = subst (IsHeldBelow c l p cursor) clean h
below_of c false l p cursor dirty clean h = h

pub entry_is : (attached : Bool) (l p : Name) (cursor : ℕ) (dirty : List ℕ) → entry_of (folding_of attached l p cursor dirty) ≡ Leaf (image_uuid l) (image_uuid p) ∷ []
entry_is true l p cursor dirty = refl
entry_is false l p cursor dirty = refl

-- the parent under the leaf's name
pub swapped_is : (σ : Shape) (attached : Bool) (l p : Name) (cursor : ℕ) → swapped_shape (folding_of attached l p cursor []) σ
    ≡ record σ { images = with_found (find_image p σ.images) (as_leaf l) (without_image p (without_image l σ.images)); op = op.Idle }
unfolding swapped_shape given_blocks
swapped_is σ true l p cursor = refl
swapped_is σ false l p cursor = refl

-- where none is dirty
clean_is : (attached : Bool) (l p : Name) (cursor : ℕ) (dirty : List ℕ) → dirty_in (folding_of attached l p cursor dirty) ≡ [] → folding_of attached l p cursor dirty ≡ folding_of attached l p cursor []
clean_is true l p cursor dirty clean = ap (op.Live l p cursor) clean
clean_is false l p cursor dirty clean = refl

-- the leaf and the parent of an operation are two names
pub parents_same : (o : Op) (l p a b : Name) → IsFoldingOf o l p → IsFoldingOf o a b → (l ≡ a) × (p ≡ b)
parents_same o l p a b (true, cursor, dirty, is) (true, next, ds, then) = let same : op.Live l p cursor dirty ≡ op.Live a b next ds = sym is ∙ then in ((let z = same in cc), (let z = same in cc))
parents_same o l p a b (true, cursor, dirty, is) (false, next, ds, then) = absurd (let same : op.Live l p cursor dirty ≡ op.Leaf a b next = sym is ∙ then in cc)
parents_same o l p a b (false, cursor, dirty, is) (true, next, ds, then) = absurd (let same : op.Leaf l p cursor ≡ op.Live a b next ds = sym is ∙ then in cc)
parents_same o l p a b (false, cursor, dirty, is) (false, next, ds, then) = let same : op.Leaf l p cursor ≡ op.Leaf a b next = sym is ∙ then in ((let z = same in cc), (let z = same in cc))

-- ---- the step

module _ (s : Site) (t : VolumeTable) (m : Known) where
  pub swap_folds : next_step (shape_in s t m) ≡ plan.Swap → is_folding m.op ≡ true
  unfolding next_step shape_in
  swap_folds planned = by m.op refl planned
    where
      by : (x : Op) → m.op ≡ x → plan_running (shape_in s t m) x ≡ plan.Swap → is_folding m.op ≡ true
      by op.Idle is e = absurd (never (shape_in s t m) op.Idle e refl)
      by (op.Copy v p cursor) is e = absurd (never (shape_in s t m) (op.Copy v p cursor) e refl)
      by (op.Relink v p) is e = absurd (never (shape_in s t m) (op.Relink v p) e refl)
      by (op.Leaf l p cursor) is e = ap is_folding is
      by (op.Live l p cursor dirty) is e = ap is_folding is

  -- and no block is left to copy
  pub none_left : (attached : Bool) (l p : Name) (cursor : ℕ) → next_step (shape_in s t m) ≡ plan.Swap → m.op ≡ folding_of attached l p cursor [] → next_block cursor (table_of l (shape_in s t m)) ≡ None
  unfolding next_step plan_running shape_in
  none_left attached l p cursor planned is = by attached (sym (ap (plan_running (shape_in s t m)) is) ∙ planned)
    where
      last : (b : Option ℕ) → copy_or plan.Swap b ≡ plan.Swap → b ≡ None
      last None e = refl
      last (Some b) e = absurd (let z = e in cc)

      by : (x : Bool) → plan_running (shape_in s t m) (folding_of x l p cursor []) ≡ plan.Swap → next_block cursor (table_of l (shape_in s t m)) ≡ None
      by true e = last (next_block cursor (table_of l (shape_in s t m))) e
      by false e = last (next_block cursor (table_of l (shape_in s t m))) e

-- a swap of the leaf l, attached or not, and its parent p
pub record IsToSwap (s : Site) (t : VolumeTable) (m : Known) (l p : Name) (cursor : ℕ) : Type 0 where
  pub orderly : IsOrderly s t m
  pub tidy : IsTidy t m
  pub attached : Bool
  pub is : m.op ≡ folding_of attached l p cursor []
  pub planned : next_step (shape_in s t m) ≡ plan.Swap
  pub leaf_vhd : is_vhd l ≡ true
  pub parent_vhd : is_vhd p ≡ true

pub to_swap : (s : Site) (t : VolumeTable) (m : Known) (l p : Name) → IsOrderly s t m → IsTidy t m → next_step (shape_in s t m) ≡ plan.Swap → dirty_in m.op ≡ [] → (is : IsFoldingOf m.op l p)
    → IsToSwap s t m l p is.1
unfolding shape_in
to_swap s t m l p o tidy planned clean is =
    let fold : m.op ≡ folding_of is.0 l p is.1 [] = is.3 ∙ clean_is is.0 l p is.1 is.2 (sym (ap dirty_in is.3) ∙ clean) in
    record {
      orderly = o;
      tidy = tidy;
      attached = is.0;
      is = fold;
      planned = planned;
      leaf_vhd = ∥∥₁_elim o.well_formed (hlevel props) (λ w. (only_of (shape_in s t m) is.0 l p is.1 [] (subst (IsOperation (shape_in s t m)) fold w.operation)).link.vhd);
      parent_vhd = ∥∥₁_elim o.well_formed (hlevel props) (λ w. vhd_of (shape_in s t m) is.0 l p is.1 [] (subst (IsOperation (shape_in s t m)) fold w.operation));
    }
