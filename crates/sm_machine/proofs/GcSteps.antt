-- Each step of the collector keeps a shape well-formed.
use Rattle.std.proofs.Common.{◌≡◌, ℕ, ◌+◌, true, false, List, [], ◌∷◌, ◌++◌, Option, Some, None, refl, sym, ap, subst, inl}
use Rattle.std.specs.List.{find, filter}
use Rattle.sm_base.specs.declared.names.Name.{Name}
use Rattle.sm_machine.specs.Operations.{Op}
use Rattle.sm_machine.specs.Operations as op
use Rattle.sm_base.specs.declared.operations.Plan.{Plan}
use Rattle.sm_base.specs.declared.operations.Plan.TheVariants as plan
use Rattle.common_laws.specs.Lists.{In, when}
use Rattle.sm_machine.specs.Shapes.{Shape, ImageRow, attached_as, find_image, image_uuid, is_image, is_rw, is_there, on_image, slot_at, is_parent, children, top, thin_in}
use Rattle.sm_machine.specs.Collector.{Pair, next_step, plan_idle, plan_running, plan_copy, copy_or, relink_or, blocked, table_of, next_block, clean_or, given_block, is_written, pairs, leaves, lives, fits, target, is_garbage, is_loose, collected, copied, turned, linked, swapped}
use Rattle.sm_machine.specs.WellFormed.{IsWellFormed, IsChild, IsLive}
use Rattle.common_laws.proofs.Lists.{find-some, In-filter}
use Rattle.sm_machine.proofs.ImageNames.{same_image-sound}
use Rattle.sm_machine.proofs.Deletes.{remove_keeps}
use Rattle.sm_machine.proofs.Collects.{operation_changes, cut_keeps, copy_keeps, copy_only, on_copy, copy_names, copy_marks, copy_links, copy_sizes, copy_extents, block_table}
use Rattle.sm_machine.proofs.Begins.{IsFoldable, IsLeaf, IsLiveLeaf, chosen_pair, chosen_leaf, chosen_live, begin_keeps, begin_only, begin_thick}
use Rattle.sm_machine.proofs.Folds.{link_keeps}
use Rattle.sm_machine.proofs.Swaps.{swap_keeps, swap_live}
use Rattle.sm_machine.specs.Operations.{dirty_limit, without_dirty}
use Rattle.sm_machine.proofs.Lives.{in_without, there_given, there_when, there_within}
use Rattle.sm_machine.proofs.Mapped.{live_mapped}
use Rattle.sm_machine.proofs.Tables.{next_found}
use Rattle.sm_machine.proofs.Debts.{found_row}
use Rattle.std.proofs.lemmas.Bool.{lt-ltb, ltb-true}
use Rattle.std.specs.Prelude.{◌<◌, ◌≤◌, ◌&&◌, not, nat_lt, length, Bool}
use Rattle.std.proofs.Common.{arith}

-- ---- no operation runs

module _ (s : Shape) (w : IsWellFormed (record s { op = op.Idle })) where
  abbrev resting : Shape
  resting = record s { op = op.Idle }

  removed : (i : ImageRow) → find (is_garbage resting) s.images ≡ Some i → IsWellFormed (collected (plan.Remove i.name) resting)
  unfolding collected
  removed i e = let f : In i s.images × (is_garbage resting i ≡ true) = find-some (is_garbage resting) s.images i e in remove_keeps resting w i f.0 f.1

  cut : (i : ImageRow) → find (is_loose resting) s.images ≡ Some i → IsWellFormed (collected (plan.Deflate i.name (thin_in resting (top i.slots))) resting)
  unfolding collected
  cut i e = let f : In i s.images × (is_loose resting i ≡ true) = find-some (is_loose resting) s.images i e in cut_keeps resting w i f.0 f.1

  begun : (p : Pair) → find (fits resting) (pairs resting) ≡ Some p → IsWellFormed (collected (plan.Begin p.child.name p.parent.name (target resting p)) resting)
  unfolding collected
  begun p e =
      let f : In p (pairs resting) × (fits resting p ≡ true) = find-some (fits resting) (pairs resting) p e in
      let k : IsFoldable resting true p = chosen_pair resting p f.0 in
      begin_keeps resting w true p k f.1 (op.Copy p.child.name p.parent.name 0) (begin_only resting w true p k f.1 (op.Copy p.child.name p.parent.name 0))

  leaf_begun : (p : Pair) → find (fits resting) (leaves resting) ≡ Some p → IsWellFormed (collected (plan.Leaf p.child.name p.parent.name (target resting p)) resting)
  unfolding collected
  leaf_begun p e =
      let f : In p (leaves resting) × (fits resting p ≡ true) = find-some (fits resting) (leaves resting) p e in
      let k : IsLeaf resting p = chosen_leaf resting p f.0 in
      begin_keeps resting w false p k.foldable f.1 (op.Leaf p.child.name p.parent.name 0) (begin_only resting w false p k.foldable f.1 (op.Leaf p.child.name p.parent.name 0), k.parent_vhd, k.free_leaf)

  live_begun : (p : Pair) → find (fits resting) (lives resting) ≡ Some p → IsWellFormed (collected (plan.Live p.child.name p.parent.name (target resting p)) resting)
  unfolding collected
  live_begun p e =
      let f : In p (lives resting) × (fits resting p ≡ true) = find-some (fits resting) (lives resting) p e in
      let k : IsLiveLeaf resting p = chosen_live resting p f.0 in
      let o : Op = op.Live p.child.name p.parent.name 0 [] in
      begin_keeps resting w false p k.foldable f.1 o (record {
        only = begin_only resting w false p k.foldable f.1 o;
        parent_vhd = k.parent_vhd;
        attached = k.attached;
        thick = λ rw. begin_thick resting w false p k.foldable f.1 k.parent_vhd (written k rw);
        within = omega arith;
        blocks = λ b i. absurd i;
      })
    where
      written : IsLiveLeaf resting p → is_rw (attached_as (image_uuid p.child.name) resting) ≡ true → is_written resting p.child ≡ true
      written k rw = by p.child.hidden k.foldable.shown
        where
          by : (h : Bool) → h ≡ false → (not h && is_rw (attached_as (image_uuid p.child.name) resting)) ≡ true
          by false e = rw
          by true e = cc

  rests : (ps : List Pair) → IsWellFormed (collected (blocked resting ps) resting)
  unfolding collected
  rests [] = w
  rests (p ∷ ps) = w

  abbrev idle_by : Option ImageRow → Option ImageRow → Option Pair → Option Pair → Option Pair → Plan
  idle_by g l p q r = elim g [ Some i ↦ plan.Remove i.name | None ↦ elim l [ Some i ↦ plan.Deflate i.name (thin_in resting (top i.slots)) | None ↦ elim p [ Some a ↦ plan.Begin a.child.name a.parent.name (target resting a) | None ↦ elim q [ Some a ↦ plan.Leaf a.child.name a.parent.name (target resting a) | None ↦ elim r [ Some a ↦ plan.Live a.child.name a.parent.name (target resting a) | None ↦ blocked resting (pairs resting ++ (leaves resting ++ lives resting)) ] ] ] ] ]

  by_rules : (g l : Option ImageRow) (p q r : Option Pair) → find (is_garbage resting) s.images ≡ g → find (is_loose resting) s.images ≡ l → find (fits resting) (pairs resting) ≡ p → find (fits resting) (leaves resting) ≡ q → find (fits resting) (lives resting) ≡ r → IsWellFormed (collected (idle_by g l p q r) resting)
  by_rules (Some i) l p q r a b c d e = removed i a
  by_rules None (Some i) p q r a b c d e = cut i b
  by_rules None None (Some x) q r a b c d e = begun x c
  by_rules None None None (Some x) r a b c d e = leaf_begun x d
  by_rules None None None None (Some x) a b c d e = live_begun x e
  by_rules None None None None None a b c d e = rests (pairs resting ++ (leaves resting ++ lives resting))

  idle_keeps : IsWellFormed (collected (plan_idle resting) resting)
  unfolding plan_idle
  idle_keeps = by_rules (find (is_garbage resting) s.images) (find (is_loose resting) s.images) (find (fits resting) (pairs resting)) (find (fits resting) (leaves resting)) (find (fits resting) (lives resting)) refl refl refl refl refl

-- ---- a copy

module _ (s : Shape) (v p : Name) (cursor : ℕ) (w : IsWellFormed (record s { op = op.Copy v p cursor })) where
  abbrev copying : Shape
  copying = record s { op = op.Copy v p cursor }

  by_block : (o : Option ℕ) → IsWellFormed (collected (copy_or plan.Turn o) copying)
  unfolding collected copied turned
  by_block None = let h : IsChild copying true v p = w.operation.link in
      operation_changes copying w (op.Relink v p) (record { child = h.child; there = h.there; is_named = h.is_named; is_shown = h.is_shown; vhd = h.vhd; linked = h.linked })
  by_block (Some b) = copy_keeps copying w p b (op.Copy v p (b + 1)) (copy_only copying w p b (op.Copy v p (b + 1)) true v w.operation)

  by_children : (is : List ImageRow) → IsWellFormed (collected (plan_copy copying v cursor is) copying)
  unfolding collected
  by_children [] = operation_changes copying w op.Idle tt
  by_children (i ∷ is) = by_block (next_block cursor (table_of v copying))

-- ---- children are linked

parent_is : (n : Name) (o : Option Name) → is_parent n o ≡ true → o ≡ Some n
parent_is n None e = cc
parent_is n (Some m) e = ap Some (same_image-sound m n e)

module _ (s : Shape) (v p : Name) (w : IsWellFormed (record s { op = op.Relink v p })) where
  abbrev linking : Shape
  linking = record s { op = op.Relink v p }

  by_child : (is : List ImageRow) → children v s.images ≡ is → IsWellFormed (collected (relink_or is) linking)
  unfolding collected linked children
  by_child [] e = operation_changes linking w op.Idle tt
  by_child (c ∷ others) e =
      let front : In c (filter (λ (i : ImageRow). is_parent v i.parent) s.images) = subst (λ (xs : List ImageRow). In c xs) (sym e) (inl refl) in
      let f : In c s.images × (is_parent v c.parent ≡ true) = In-filter (λ (i : ImageRow). is_parent v i.parent) s.images c front in
      link_keeps s v p w c f.0 (parent_is v c.parent f.1)

-- ---- a leaf is folded

module _ (s : Shape) (l p : Name) (cursor : ℕ) (w : IsWellFormed (record s { op = op.Leaf l p cursor })) where
  abbrev folding : Shape
  folding = record s { op = op.Leaf l p cursor }

  by_leaf_block : (o : Option ℕ) → IsWellFormed (collected (copy_or plan.Swap o) folding)
  unfolding collected copied
  by_leaf_block None = swap_keeps s l p cursor w
  by_leaf_block (Some b) = copy_keeps folding w p b (op.Leaf l p (b + 1)) (copy_only folding w p b (op.Leaf l p (b + 1)) false l w.operation.0, w.operation.1, w.operation.2)

-- ---- the leaf of an attached disk is folded

module _ (s : Shape) (l p : Name) (cursor : ℕ) (dirty : List ℕ) (w : IsWellFormed (record s { op = op.Live l p cursor dirty })) where
  abbrev living : Shape
  living = record s { op = op.Live l p cursor dirty }

  slot_kept : (b c : ℕ) (y : ImageRow) → is_there (slot_at y.slots c) ≡ true → is_there (slot_at (when (is_image p y) (given_block b) y).slots c) ≡ true
  slot_kept b c y e = there_when c (is_image p y) (given_block b) y (λ z f. there_given b c z f) e

  -- the parent gets a block, and the operation is this one
  block_keeps : (b next : ℕ) (ds : List ℕ) → IsLive living l p next ds → IsWellFormed (record s { images = on_image p (given_block b) s.images; op = op.Live l p next ds })
  block_keeps b next ds h = copy_keeps living w p b (op.Live l p next ds)
      (live_mapped living w (on_copy living w p b) (copy_names living w p b) (copy_marks living w p b) (copy_links living w p b) s.attached (op.Live l p next ds) l p next ds ds h refl
      (λ y k. copy_sizes living w p b y) (λ q k n. subst (λ (m : ℕ). q.extents ≤ m) (sym (copy_extents living w p b q)) (omega arith))
      (subst (λ (m : ℕ). next ≤ m) (sym (block_table living w p b h.only.link.child)) h.within)
      (λ c i. (let f = h.blocks c i in (f.0, slot_kept b c h.only.link.child f.1))))

  live_copy_keeps : (b : ℕ) → next_block cursor (table_of l living) ≡ Some b → IsWellFormed (collected (plan.Copy b) living)
  unfolding collected copied
  live_copy_keeps b e = by (nat_lt b cursor) refl
    where
      found : (cursor ≤ b) × (is_there (slot_at (table_of l living) b) ≡ true)
      found = next_found cursor b (table_of l living) e

      table : table_of l living ≡ w.operation.only.link.child.slots
      table = ap (λ (o : Option ImageRow). elim o as (λ _. List (Option ℕ)) [ None ↦ [] | Some i ↦ i.slots ])
          (subst (λ (n : Name). find_image n s.images ≡ Some w.operation.only.link.child) w.operation.only.link.is_named (found_row living w w.operation.only.link.child w.operation.only.link.there))

      by : (c : Bool) → nat_lt b cursor ≡ c → IsWellFormed (record s { images = on_image p (given_block b) s.images; op = elim c as (λ _. Op) [ true ↦ op.Live l p cursor (without_dirty b dirty) | false ↦ op.Live l p (b + 1) dirty ] })
      by true f = (let low : b < cursor = ltb-true b cursor f in let high : cursor ≤ b = found.0 in absurd (omega arith))
      by false f = block_keeps b (b + 1) dirty (record {
        only = w.operation.only;
        parent_vhd = w.operation.parent_vhd;
        attached = w.operation.attached;
        thick = w.operation.thick;
        within = (let m : b < length w.operation.only.link.child.slots = there_within b w.operation.only.link.child.slots (subst (λ (xs : List (Option ℕ)). is_there (slot_at xs b) ≡ true) table found.1) in omega arith);
        blocks = λ c i. (let g = w.operation.blocks c i in (let low = g.0 in let high = found.0 in omega arith, g.1));
      })

  live_clean_keeps : (b : ℕ) → In b dirty → IsWellFormed (collected (plan.Copy b) living)
  unfolding collected copied
  live_clean_keeps b i = by (nat_lt b cursor) refl
    where
      by : (c : Bool) → nat_lt b cursor ≡ c → IsWellFormed (record s { images = on_image p (given_block b) s.images; op = elim c as (λ _. Op) [ true ↦ op.Live l p cursor (without_dirty b dirty) | false ↦ op.Live l p (b + 1) dirty ] })
      by false f = (let t : nat_lt b cursor ≡ true = lt-ltb b cursor (w.operation.blocks b i).0 in cc)
      by true f = block_keeps b cursor (without_dirty b dirty) (record {
        only = w.operation.only;
        parent_vhd = w.operation.parent_vhd;
        attached = w.operation.attached;
        thick = w.operation.thick;
        within = w.operation.within;
        blocks = λ c j. w.operation.blocks c (in_without c b dirty j);
      })

  live_clean : (ds : List ℕ) → ((b : ℕ) → In b ds → In b dirty) → IsWellFormed (collected plan.Swap living) → IsWellFormed (collected (clean_or ds) living)
  live_clean [] all swap = swap
  live_clean (d ∷ ds) all swap = by (nat_lt dirty_limit (length (d ∷ ds)))
    where
      by : (c : Bool) → IsWellFormed (collected (elim c as (λ _. Plan) [ true ↦ plan.Copy d | false ↦ plan.Swap ]) living)
      by true = live_clean_keeps d (all d (inl refl))
      by false = swap

  by_live_block : (o : Option ℕ) → next_block cursor (table_of l living) ≡ o → IsWellFormed (collected plan.Swap living) → IsWellFormed (collected (copy_or (clean_or dirty) o) living)
  by_live_block None e swap = live_clean dirty (λ b i. i) swap
  by_live_block (Some b) e swap = live_copy_keeps b e

live_swap_keeps : (s : Shape) (l p : Name) (cursor : ℕ) (dirty : List ℕ) → IsWellFormed (record s { op = op.Live l p cursor dirty }) → IsWellFormed (collected plan.Swap (record s { op = op.Live l p cursor dirty }))
unfolding collected
live_swap_keeps s l p cursor dirty w = swap_live s l p cursor dirty w

-- ---- every step

by_operation : (s : Shape) (o : Op) → IsWellFormed (record s { op = o }) → IsWellFormed (collected (plan_running (record s { op = o }) o) (record s { op = o }))
unfolding plan_running
by_operation s op.Idle w = idle_keeps s w
by_operation s (op.Copy v p cursor) w = by_children s v p cursor w (children v s.images)
by_operation s (op.Relink v p) w = by_child s v p w (children v s.images) refl
by_operation s (op.Live l p cursor dirty) w = by_live_block s l p cursor dirty w (next_block cursor (table_of l (record s { op = op.Live l p cursor dirty }))) refl (live_swap_keeps s l p cursor dirty w)
by_operation s (op.Leaf l p cursor) w = by_leaf_block s l p cursor w (next_block cursor (table_of l (record s { op = op.Leaf l p cursor })))

pub gc_keeps : (s : Shape) → IsWellFormed s → IsWellFormed (collected (next_step s) s)
unfolding next_step
gc_keeps s w = by_operation s s.op w

-- no step of the collector counts its commits itself
copied_sequence : (o : Op) (b : ℕ) (s : Shape) → (copied o b s).sequence ≡ s.sequence
unfolding copied
copied_sequence op.Idle b s = refl
copied_sequence (op.Copy v p cursor) b s = refl
copied_sequence (op.Relink v p) b s = refl
copied_sequence (op.Leaf l p cursor) b s = refl
copied_sequence (op.Live l p cursor dirty) b s = refl

linked_sequence : (o : Op) (c : Name) (s : Shape) → (linked o c s).sequence ≡ s.sequence
unfolding linked
linked_sequence op.Idle c s = refl
linked_sequence (op.Copy v p cursor) c s = refl
linked_sequence (op.Relink v p) c s = refl
linked_sequence (op.Leaf l p cursor) c s = refl
linked_sequence (op.Live l p cursor dirty) c s = refl

swapped_sequence : (o : Op) (s : Shape) → (swapped o s).sequence ≡ s.sequence
unfolding swapped
swapped_sequence op.Idle s = refl
swapped_sequence (op.Copy v p cursor) s = refl
swapped_sequence (op.Relink v p) s = refl
swapped_sequence (op.Leaf l p cursor) s = refl
swapped_sequence (op.Live l p cursor dirty) s = refl

pub gc_sequence : (q : Plan) (s : Shape) → (collected q s).sequence ≡ s.sequence
unfolding collected
gc_sequence plan.Abandon s = refl
gc_sequence (plan.Copy b) s = copied_sequence s.op b s
gc_sequence plan.Turn s = refl
gc_sequence (plan.RelinkOne c) s = linked_sequence s.op c s
gc_sequence plan.Finish s = refl
gc_sequence plan.Swap s = swapped_sequence s.op s
gc_sequence (plan.Remove name) s = refl
gc_sequence (plan.Deflate name to) s = refl
gc_sequence (plan.Begin child parent to) s = refl
gc_sequence (plan.Leaf leaf parent to) s = refl
gc_sequence (plan.Live leaf parent to) s = refl
gc_sequence (plan.Blocked needed room) s = refl
gc_sequence plan.Idle s = refl
