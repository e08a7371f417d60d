-- What holds alike of the copy of a hidden image, of a leaf and of the leaf of an attached disk, and of their journal entries; k says which of them it is.
use Rattle.std.proofs.Common.{◌≡◌, ◌⊎◌, inl, inr, ℕ, ◌+◌, ◌<◌, ◌≤◌, Bool, true, false, List, [], ◌∷◌, length, Option, Some, None, refl, sym, ap, ◌∙◌, nat_lt, is_some, arith}
use Rattle.std.proofs.lemmas.Bool.{le-ltb, lt-ltb, true≢false}
use Rattle.common_laws.specs.Lists.{In}
use Rattle.sm_base.specs.Kinds.{is_entry}
use Rattle.sm_base.specs.Names.{IsName, IsUuid}
use Rattle.sm_base.specs.declared.names.Name.{Name}
use Rattle.sm_base.specs.declared.names.Name.TheVariants.{Mgt}
use Rattle.sm_base.specs.declared.operations.Op.{Op as Told}
use Rattle.sm_base.specs.declared.operations.Op.TheVariants as as_told
use Rattle.sm_base.specs.declared.operations.Plan.{Plan}
use Rattle.sm_base.specs.declared.operations.Plan.TheVariants as plan
use Rattle.vg_meta.specs.Changes.{made}
use Rattle.vg_meta.specs.Tables.{suits}
use Rattle.sm_machine.specs.Collector.{clean_or, collected, copied, copy_or, enlarged, given_block, next_block, plan_copy, plan_running, table_of}
use Rattle.sm_machine.specs.Commits.{extents_of, growth_commits, plan_commits}
use Rattle.sm_machine.specs.Operations.{Op, advanced, dirty_limit, is_dirty, told, went_on, without_dirty}
use Rattle.sm_machine.specs.Operations as op
use Rattle.sm_machine.specs.Shapes.{ImageRow, Shape, attached_as, children, image_uuid, is_rw, is_there, is_vhd, on_image, slot_at, thick_in}
use Rattle.sm_machine.specs.WellFormed.{IsOnlyChild, IsOperation, is_image_name}
use Rattle.sm_machine.proofs.Told.{told_copy, told_leaf, told_live}
use Rattle.sm_operation.specs.Kept.{dirty_in}
use Rattle.sm_standing.specs.Contents.{Content}
use Rattle.sm_ready.specs.Known.{entry_of}
use Rattle.sm_ready.specs.Orderly.{IsRoomyFor, IsRoomyIn}
use Rattle.sm_ready.specs.Ready.{IsBelow, IsHeldBelow}
use Rattle.gc_coalesce.specs.Beginning.{begins, copy_entry}
use Rattle.gc_coalesce.specs.Copying.{IsCopyOf, IsMasked, IsParentMasked, copy_of, copying, dirty_of, is_hidden}
use Rattle.gc_coalesce.specs.declared.kinds.Kind.{Kind}
use Rattle.gc_coalesce.specs.declared.kinds.Kind.TheVariants as kinds
use Rattle.gc_coalesce.proofs.PlannedLaws.{may_plan, plan_may}

-- ---- an operation as it is told

pub copy_told : (o : Op) (v p : Name) (cursor : ℕ) → told o ≡ as_told.Copy v p cursor → IsCopyOf o v p
copy_told o v p cursor is = (kinds.Hidden, cursor, [], told_copy v p cursor o is)

pub leaf_told : (o : Op) (l p : Name) (cursor : ℕ) → told o ≡ as_told.Leaf l p cursor → IsCopyOf o l p
leaf_told o l p cursor is = (kinds.Leaf, cursor, [], told_leaf l p cursor o is)

pub live_told : (o : Op) (l p : Name) (cursor dirty : ℕ) → told o ≡ as_told.Live l p cursor dirty → IsCopyOf o l p
live_told o l p cursor dirty is = let w = told_live l p cursor dirty o is in (kinds.Live, cursor, w.0, w.1)

-- it is no copy where it is told to be none
abbrev told_copying : Told → Bool
told_copying as_told.Idle = false
told_copying (as_told.Copy v p cursor) = true
told_copying (as_told.Relink v p) = false
told_copying (as_told.Leaf l p cursor) = true
told_copying (as_told.Live l p cursor dirty) = true

copying_told : (o : Op) → told_copying (told o) ≡ copying o
unfolding told
copying_told op.Idle = refl
copying_told (op.Copy v p cursor) = refl
copying_told (op.Relink v p) = refl
copying_told (op.Leaf l p cursor) = refl
copying_told (op.Live l p cursor dirty) = refl

pub idle_never : (o : Op) → copying o ≡ true → told o ≡ as_told.Idle → ⊥
idle_never o runs is = true≢false (sym runs ∙ sym (copying_told o) ∙ ap told_copying is)

pub relink_never : (o : Op) (v p : Name) → copying o ≡ true → told o ≡ as_told.Relink v p → ⊥
relink_never o v p runs is = true≢false (sym runs ∙ sym (copying_told o) ∙ ap told_copying is)

-- where a block is dirty, a copy runs
pub dirty_runs : (o : Op) (b : ℕ) → is_dirty b (dirty_in o) ≡ true → copying o ≡ true
dirty_runs op.Idle b is = is
dirty_runs (op.Copy v p cursor) b is = refl
dirty_runs (op.Relink v p) b is = is
dirty_runs (op.Leaf l p cursor) b is = refl
dirty_runs (op.Live l p cursor dirty) b is = refl

pub dirty_is : (k : Kind) (v p : Name) (cursor : ℕ) (dirty : List ℕ) → dirty_in (copy_of k v p cursor dirty) ≡ dirty_of k dirty
dirty_is kinds.Hidden v p cursor dirty = refl
dirty_is kinds.Leaf v p cursor dirty = refl
dirty_is kinds.Live v p cursor dirty = refl

-- ---- the images

pub only_of : (σ : Shape) (k : Kind) (v p : Name) (cursor : ℕ) (dirty : List ℕ) → IsOperation σ (copy_of k v p cursor dirty) → IsOnlyChild σ (is_hidden k) v p
only_of σ kinds.Hidden v p cursor dirty h = h
only_of σ kinds.Leaf v p cursor dirty h = h.0
only_of σ kinds.Live v p cursor dirty h = h.only

-- what is known of a leaf beside that: its disk is attached or not, its parent is a VHD image, and where the disk is attached for writing
-- the parent has extents for all blocks
abbrev pub IsLeafIn : Shape → Kind → Name → Name → Type 0
IsLeafIn σ kinds.Hidden v p = Unit {0}
IsLeafIn σ kinds.Leaf v p = (is_vhd p ≡ true) × (attached_as (image_uuid v) σ ≡ None)
IsLeafIn σ kinds.Live v p = (is_vhd p ≡ true) × (is_some (attached_as (image_uuid v) σ) ≡ true)
    × (is_rw (attached_as (image_uuid v) σ) ≡ true → (q : ImageRow) → In q σ.images → q.name ≡ p → thick_in σ q.size ≤ q.extents)

-- a copy that begins
pub runs_first : (σ : Shape) (k : Kind) (v p : Name) → IsOnlyChild σ (is_hidden k) v p → IsLeafIn σ k v p → IsOperation σ (copy_of k v p 0 [])
runs_first σ kinds.Hidden v p only leaf = only
runs_first σ kinds.Leaf v p only leaf = (only, leaf.0, leaf.1)
runs_first σ kinds.Live v p only leaf = record { only = only; parent_vhd = leaf.0; attached = leaf.1; thick = leaf.2; within = omega arith; blocks = λ b i. absurd i }

-- of the copy of an attached disk's leaf: the cursor lies within the leaf's table, and dirty blocks are blocks of it below the cursor
pub record IsWithin (k : Kind) (cursor : ℕ) (dirty : List ℕ) (slots : List (Option ℕ)) : Type 0 where
  pub cursor_within : k ≡ kinds.Live → cursor ≤ length slots
  pub blocks : (b : ℕ) → In b (dirty_of k dirty) → (b < cursor) × (is_there (slot_at slots b) ≡ true)

pub within_of : (σ : Shape) (k : Kind) (v p : Name) (cursor : ℕ) (dirty : List ℕ) (h : IsOperation σ (copy_of k v p cursor dirty)) → IsWithin k cursor dirty (only_of σ k v p cursor dirty h).link.child.slots
unfolding only_of
within_of σ kinds.Hidden v p cursor dirty h = record { cursor_within = λ is. absurd (let x = is in cc); blocks = λ b i. absurd i }
within_of σ kinds.Leaf v p cursor dirty h = record { cursor_within = λ is. absurd (let x = is in cc); blocks = λ b i. absurd i }
within_of σ kinds.Live v p cursor dirty h = record { cursor_within = λ is. h.within; blocks = h.blocks }

-- the same copy with another cursor and other dirty blocks
pub runs_next : (σ : Shape) (k : Kind) (v p : Name) (cursor next : ℕ) (dirty ds : List ℕ) (h : IsOperation σ (copy_of k v p cursor dirty)) → IsWithin k next ds (only_of σ k v p cursor dirty h).link.child.slots
    → IsOperation σ (copy_of k v p next ds)
unfolding only_of
runs_next σ kinds.Hidden v p cursor next dirty ds h within = h
runs_next σ kinds.Leaf v p cursor next dirty ds h within = h
runs_next σ kinds.Live v p cursor next dirty ds h within = record {
  only = h.only;
  parent_vhd = h.parent_vhd;
  attached = h.attached;
  thick = h.thick;
  within = within.cursor_within refl;
  blocks = within.blocks;
}

-- ---- the room

pub roomy_of : (σ : Shape) (k : Kind) (v p : Name) (cursor : ℕ) (dirty : List ℕ) → IsRoomyIn σ (copy_of k v p cursor dirty) → IsRoomyFor σ v p
roomy_of σ kinds.Hidden v p cursor dirty h = h
roomy_of σ kinds.Leaf v p cursor dirty h = h
roomy_of σ kinds.Live v p cursor dirty h = h

pub roomy_in : (σ : Shape) (k : Kind) (v p : Name) (cursor : ℕ) (dirty : List ℕ) → IsRoomyFor σ v p → IsRoomyIn σ (copy_of k v p cursor dirty)
roomy_in σ kinds.Hidden v p cursor dirty h = h
roomy_in σ kinds.Leaf v p cursor dirty h = h
roomy_in σ kinds.Live v p cursor dirty h = h

-- ---- what the parent holds

pub below_of : (c : Content) (k : Kind) (v p : Name) (cursor : ℕ) (dirty : List ℕ) → IsBelow c (copy_of k v p cursor dirty) → IsHeldBelow c v p cursor (dirty_of k dirty)
below_of c kinds.Hidden v p cursor dirty h = h
below_of c kinds.Leaf v p cursor dirty h = h
below_of c kinds.Live v p cursor dirty h = h

pub below_in : (c : Content) (k : Kind) (v p : Name) (cursor : ℕ) (dirty : List ℕ) → IsHeldBelow c v p cursor (dirty_of k dirty) → IsBelow c (copy_of k v p cursor dirty)
below_in c kinds.Hidden v p cursor dirty h = h
below_in c kinds.Leaf v p cursor dirty h = h
below_in c kinds.Live v p cursor dirty h = h

pub masked_of : (c d : Content) (k : Kind) (v p : Name) (cursor : ℕ) (dirty : List ℕ) → IsParentMasked c d v p → IsMasked (copy_of k v p cursor dirty) c d
masked_of c d kinds.Hidden v p cursor dirty h = h
masked_of c d kinds.Leaf v p cursor dirty h = h
masked_of c d kinds.Live v p cursor dirty h = h

-- ---- the operation goes on

-- behind a block at or past the cursor
pub advanced_past : (k : Kind) (v p : Name) (cursor b : ℕ) (dirty : List ℕ) → cursor ≤ b → advanced b (copy_of k v p cursor dirty) ≡ copy_of k v p (b + 1) dirty
advanced_past kinds.Hidden v p cursor b dirty past = refl
advanced_past kinds.Leaf v p cursor b dirty past = refl
advanced_past kinds.Live v p cursor b dirty past = ap (λ c. elim c as (λ _. Op) [ true ↦ op.Live v p cursor (without_dirty b dirty) | false ↦ op.Live v p (b + 1) dirty ]) (le-ltb b cursor past)

-- and behind a dirty one
pub advanced_below : (v p : Name) (cursor b : ℕ) (dirty : List ℕ) → b < cursor → advanced b (copy_of kinds.Live v p cursor dirty) ≡ copy_of kinds.Live v p cursor (without_dirty b dirty)
advanced_below v p cursor b dirty less = ap (λ c. elim c as (λ _. Op) [ true ↦ op.Live v p cursor (without_dirty b dirty) | false ↦ op.Live v p (b + 1) dirty ]) (lt-ltb b cursor less)

pub copied_of : (σ : Shape) (k : Kind) (v p : Name) (cursor b : ℕ) (dirty : List ℕ)
    → copied (copy_of k v p cursor dirty) b σ ≡ record σ { images = on_image p (given_block b) σ.images; op = advanced b (copy_of k v p cursor dirty) }
unfolding copied
copied_of σ kinds.Hidden v p cursor b dirty = refl
copied_of σ kinds.Leaf v p cursor b dirty = refl
copied_of σ kinds.Live v p cursor b dirty = refl

-- ---- the entry

pub is_its_entry : (k : Kind) (v p : Name) → is_entry (copy_entry k v p) ≡ true
is_its_entry kinds.Hidden v p = refl
is_its_entry kinds.Leaf v p = refl
is_its_entry kinds.Live v p = refl

pub its_entry : (k : Kind) (v p : Name) (cursor : ℕ) (dirty : List ℕ) → entry_of (copy_of k v p cursor dirty) ≡ copy_entry k v p ∷ []
its_entry kinds.Hidden v p cursor dirty = refl
its_entry kinds.Leaf v p cursor dirty = refl
its_entry kinds.Live v p cursor dirty = refl

pub entry_proper : (k : Kind) (v p : Name) → IsUuid (image_uuid v) → IsUuid (image_uuid p) → IsName (copy_entry k v p)
unfolding IsName
entry_proper kinds.Hidden v p child parent = (child, parent)
entry_proper kinds.Leaf v p child parent = (child, parent)
entry_proper kinds.Live v p child parent = (child, parent)

pub entry_suits : (k : Kind) (v p : Name) → suits (made (copy_entry k v p) false []) ≡ true
entry_suits kinds.Hidden v p = refl
entry_suits kinds.Leaf v p = refl
entry_suits kinds.Live v p = refl

pub entry_no_records : (k : Kind) (v p : Name) → copy_entry k v p ≡ Mgt → ⊥
entry_no_records kinds.Hidden v p is = (let x = is in cc)
entry_no_records kinds.Leaf v p is = (let x = is in cc)
entry_no_records kinds.Live v p is = (let x = is in cc)

pub entry_no_image : (k : Kind) (v p : Name) → is_image_name (copy_entry k v p) ≡ false
unfolding is_image_name
entry_no_image kinds.Hidden v p = refl
entry_no_image kinds.Leaf v p = refl
entry_no_image kinds.Live v p = refl

pub no_relink : (k : Kind) (v p : Name) (cursor : ℕ) (dirty : List ℕ) {a c : Name} → copy_of k v p cursor dirty ≡ op.Relink a c → ⊥
no_relink kinds.Hidden v p cursor dirty e = (let z = e in cc)
no_relink kinds.Leaf v p cursor dirty e = (let z = e in cc)
no_relink kinds.Live v p cursor dirty e = (let z = e in cc)

-- ---- the steps

-- one begins where no operation runs
idle_by : (k : Kind) (v p : Name) (to : ℕ) (x : Op) → may_plan x (begins k v p to) ≡ true → x ≡ op.Idle
idle_by k v p to op.Idle may = refl
idle_by kinds.Hidden v p to (op.Copy a b cursor) may = absurd (true≢false (sym may))
idle_by kinds.Hidden v p to (op.Relink a b) may = absurd (true≢false (sym may))
idle_by kinds.Hidden v p to (op.Leaf a b cursor) may = absurd (true≢false (sym may))
idle_by kinds.Hidden v p to (op.Live a b cursor dirty) may = absurd (true≢false (sym may))
idle_by kinds.Leaf v p to (op.Copy a b cursor) may = absurd (true≢false (sym may))
idle_by kinds.Leaf v p to (op.Relink a b) may = absurd (true≢false (sym may))
idle_by kinds.Leaf v p to (op.Leaf a b cursor) may = absurd (true≢false (sym may))
idle_by kinds.Leaf v p to (op.Live a b cursor dirty) may = absurd (true≢false (sym may))
idle_by kinds.Live v p to (op.Copy a b cursor) may = absurd (true≢false (sym may))
idle_by kinds.Live v p to (op.Relink a b) may = absurd (true≢false (sym may))
idle_by kinds.Live v p to (op.Leaf a b cursor) may = absurd (true≢false (sym may))
idle_by kinds.Live v p to (op.Live a b cursor dirty) may = absurd (true≢false (sym may))

pub begins_idle : (σ : Shape) (k : Kind) (v p : Name) (to : ℕ) (x : Op) → plan_running σ x ≡ begins k v p to → x ≡ op.Idle
begins_idle σ k v p to x planned = idle_by k v p to x (sym (ap (may_plan x) planned) ∙ plan_may σ x)

pub begun_of : (σ : Shape) (k : Kind) (v p : Name) (to : ℕ) (n : ℕ → ℕ) → record (collected (begins k v p to) σ) { sequence = n (plan_commits σ (begins k v p to)) }
    ≡ record σ { sequence = n (growth_commits (nat_lt (extents_of p σ) to) + 1); images = enlarged v p to σ; op = copy_of k v p 0 [] }
unfolding collected plan_commits
begun_of σ kinds.Hidden v p to n = refl
begun_of σ kinds.Leaf v p to n = refl
begun_of σ kinds.Live v p to n = refl

-- a block is planned: the next from the cursor on that has a slot, or one that is dirty
pub block_of : (σ : Shape) (k : Kind) (v p : Name) (cursor b : ℕ) (dirty : List ℕ) → plan_running σ (copy_of k v p cursor dirty) ≡ plan.Copy b
    → (next_block cursor (table_of v σ) ≡ Some b) ⊎ In b (dirty_of k dirty)
unfolding plan_running
block_of σ k v p cursor b dirty = by k
  where
    by_block : {d : Plan} (o : Option ℕ) → (d ≡ plan.Copy b → ⊥) → copy_or d o ≡ plan.Copy b → o ≡ Some b
    by_block None never e = absurd (never e)
    by_block (Some c) never e = let x = e in cc

    by_children : (xs : List ImageRow) → plan_copy σ v cursor xs ≡ plan.Copy b → next_block cursor (table_of v σ) ≡ Some b
    by_children [] e = absurd (let x = e in cc)
    by_children (x ∷ xs) e = by_block (next_block cursor (table_of v σ)) (λ f. (let z = f in cc)) e

    clean : (ds : List ℕ) → clean_or ds ≡ plan.Copy b → In b ds
    clean [] e = absurd (let x = e in cc)
    clean (d ∷ ds) e = of (nat_lt dirty_limit (length (d ∷ ds))) e
      where
        of : (c : Bool) → elim c as (λ _. Plan) [ true ↦ plan.Copy d | false ↦ plan.Swap ] ≡ plan.Copy b → (b ≡ d) ⊎ In b ds
        of true e = inl (sym (let x = e in cc))
        of false e = absurd (let x = e in cc)

    by_dirty : (o : Option ℕ) → copy_or (clean_or dirty) o ≡ plan.Copy b → (o ≡ Some b) ⊎ In b dirty
    by_dirty None e = inr (clean dirty e)
    by_dirty (Some c) e = inl (let x = e in cc)

    by : (k : Kind) → plan_running σ (copy_of k v p cursor dirty) ≡ plan.Copy b → (next_block cursor (table_of v σ) ≡ Some b) ⊎ In b (dirty_of k dirty)
    by kinds.Hidden e = inl (by_children (children v σ.images) e)
    by kinds.Leaf e = inl (by_block (next_block cursor (table_of v σ)) (λ f. (let z = f in cc)) e)
    by kinds.Live e = by_dirty (next_block cursor (table_of v σ)) e
