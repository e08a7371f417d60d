-- The images of a copy that runs, and a block that may be copied: the next one, or a dirty one.
use Rattle.std.proofs.Common.{◌≡◌, ◌≢◌, ◌⊎◌, inl, inr, ⊎_elim, ℕ, zero, suc, ◌+◌, ◌<◌, ◌≤◌, ◌==◌, Bool, true, false, cond, List, [], ◌∷◌, drop, length, map, Option, Some, None, refl, sym, ap, ◌∙◌, subst, arith, eqb-true}
use Rattle.std.proofs.Math.Logic.{∥∥₁_elim}
use Rattle.std.proofs.Props.{props}
use Rattle.std.proofs.lemmas.Bool.{cases_lt}
use Rattle.std.proofs.lemmas.Option.{none-some, same_Some}
use Rattle.std.specs.List.{find}
use Rattle.common_laws.specs.Lists.{In, numbers}
use Rattle.common_laws.proofs.Lists.{In-map, In-map_at}
use Rattle.sm_base.specs.declared.names.Name.{Name}
use Rattle.vg_meta.specs.Tables.{VolumeTable}
use Rattle.vg_volumes.specs.Sites.{Site}
use Rattle.vhd_image.specs.Bodies.{parent_name, sector_count}
use Rattle.vhd_chain.specs.Reading.{slots_of}
use Rattle.vhd_chain.specs.Trees.{row_name, tree_row, without}
use Rattle.vhd_chain.proofs.ByName.{tree_row-without_other}
use Rattle.vhd_chain.specs.declared.rows.TreeRow.{TreeRow}
use Rattle.sm_machine.specs.Collector.{next_block, next_step, plan_running, table_of}
use Rattle.sm_machine.specs.Operations.{advanced, is_dirty, without_dirty}
use Rattle.sm_machine.specs.Shapes.{ImageRow, Shape, chain_limit, count_blocks, find_image, is_there, is_vhd, parent_of, slot_at}
use Rattle.sm_machine.specs.WellFormed.{EndsWithin, IsOnlyChild, IsOperation, IsWellFormed}
use Rattle.sm_machine.proofs.Chains.{find_image-in, parent_of-in}
use Rattle.sm_machine.proofs.Lives.{in_without, there_within, without_less}
use Rattle.sm_machine.proofs.Tables.{count-next, next_found}
use Rattle.sm_operation.specs.Kept.{dirty_in}
use Rattle.sm_ready.specs.Known.{Known, machine_row, shape_in}
use Rattle.sm_ready.specs.Orderly.{IsOrderly}
use Rattle.sm_ready.proofs.HeldLaws.{rest_advanced, rest_cleaned}
use Rattle.sm_ready.proofs.Orders.{In-tree_row}
use Rattle.sm_ready.proofs.TruthLaws.{row_found}
use Rattle.gc_coalesce.specs.Copying.{IsCopyOf, MayCopy, copy_of, dirty_of, is_hidden}
use Rattle.gc_coalesce.specs.declared.kinds.Kind.{Kind}
use Rattle.gc_coalesce.specs.declared.kinds.Kind.TheVariants as kinds
use Rattle.gc_coalesce.proofs.CopyKinds.{IsWithin, advanced_below, advanced_past, block_of, dirty_is, only_of, within_of}

-- ---- the least block from the cursor on

first_found : (t : ℕ → Bool) (c n b : ℕ) → find t (numbers c n) ≡ Some b → (k : ℕ) → c ≤ k → k < b → t k ≡ false
unfolding numbers
first_found t c zero b is k low below = absurd (none-some b is)
first_found t c (suc n) b is k low below = by (t c) refl is (λ later past. first_found t (c + 1) n b later k past below)
  where
    least : (k ≡ c) ⊎ (c + 1 ≤ k)
    least = ⊎_elim (λ less. inr (omega (arith, less))) (λ no_more. inl (omega (arith, low, no_more))) (cases_lt c k)

    by : (x : Bool) → t c ≡ x → cond x (Some c) (find t (numbers (c + 1) n)) ≡ Some b → (find t (numbers (c + 1) n) ≡ Some b → c + 1 ≤ k → t k ≡ false) → t k ≡ false
    by true e here rest = absurd (omega (arith, same_Some c b here, low, below))
    by false e later rest = ⊎_elim (λ same. ap t same ∙ e) (λ past. rest later past) least

no_slot : (o : Option ℕ) → is_there o ≡ false → o ≡ None
no_slot None e = refl
no_slot (Some k) e = absurd (let x = e in cc)

-- a block that is dirty is one of those that are
pub dirty_in_list : (b : ℕ) (xs : List ℕ) → is_dirty b xs ≡ true → In b xs
dirty_in_list b [] is = absurd (let x = is in cc)
dirty_in_list b (x ∷ xs) is = by (x == b) refl is (dirty_in_list b xs)
  where
    by : (c : Bool) → (x == b) ≡ c → cond c true (is_dirty b xs) ≡ true → (is_dirty b xs ≡ true → In b xs) → (b ≡ x) ⊎ In b xs
    by true same e rest = inl (sym (eqb-true x b same))
    by false other e rest = inr (rest e)

-- a chain that comes back to where it began does not end
no_loop : (most : ℕ) (n : Name) (images : List ImageRow) → parent_of n images ≡ Some n → EndsWithin most (Some n) images → ⊥
no_loop zero n images loop ends = ends
no_loop (suc most) n images loop ends = no_loop most n images loop (subst (λ o. EndsWithin most o images) loop ends)

-- ---- a copy that runs

-- the operation behind a block that has a slot in the child's table: of each block that is settled then it is that block, or was
-- settled before, or lies between the cursor and that block and has no slot
pub record GoesBehind (k : Kind) (v p : Name) (cursor : ℕ) (dirty : List ℕ) (b : ℕ) (slots : List (Option ℕ)) : Type 0 where
  pub cursor_then : ℕ
  pub dirty_then : List ℕ
  pub goes : advanced b (copy_of k v p cursor dirty) ≡ copy_of k v p cursor_then dirty_then
  pub slot : is_there (slot_at slots b) ≡ true
  pub rest : (x : ℕ) → x < cursor_then → is_dirty x (dirty_of k dirty_then) ≡ false
      → (x ≡ b) ⊎ (((x < cursor) × (is_dirty x (dirty_of k dirty) ≡ false)) ⊎ ((x < b) × (slot_at slots x ≡ None)))
  pub within : IsWithin k cursor_then dirty_then slots
  -- fewer blocks are left
  pub fewer : count_blocks (drop cursor_then slots) + length (dirty_of k dirty_then) < count_blocks (drop cursor slots) + length (dirty_of k dirty)

-- the rows of the child and of the parent, and the block that is to be copied
pub record IsToCopy (s : Site) (t : VolumeTable) (m : Known) (v p : Name) (cursor b : ℕ) (i q : TreeRow) : Type 0 where
  pub orderly : IsOrderly s t m
  pub kind : Kind
  pub dirty : List ℕ
  pub op : m.op ≡ copy_of kind v p cursor dirty
  pub next : GoesBehind kind v p cursor dirty b (slots_of i.image)
  pub child : tree_row m.rows v ≡ Some i
  pub parent : tree_row m.rows p ≡ Some q

-- behind the next block from the cursor on
module _ (k : Kind) (v p : Name) (cursor : ℕ) (dirty : List ℕ) (slots : List (Option ℕ)) (was : IsWithin k cursor dirty slots) where
  goes_past : (b : ℕ) → next_block cursor slots ≡ Some b → GoesBehind k v p cursor dirty b slots
  unfolding next_block
  goes_past b is =
      let at = next_found cursor b slots is in
      record {
        cursor_then = b + 1;
        dirty_then = dirty;
        goes = advanced_past k v p cursor b dirty at.0;
        slot = at.1;
        rest = rest_advanced cursor b (dirty_of k dirty) (λ x. (x < b) × (slot_at slots x ≡ None))
            (λ x late less. (less, no_slot _ (first_found (λ c. is_there (slot_at slots c)) cursor _ b is x late less)));
        within = record {
          cursor_within = λ live. (let w = there_within b slots at.1 in omega (arith, w));
          blocks = λ x i. (let f = was.blocks x i in (let low = f.0 in let high = at.0 in omega (arith, low, high), f.1));
        };
        fewer = (let less = count-next cursor b slots is in omega (arith, less));
      }

  -- and behind a dirty one
  goes_clean : (b : ℕ) → In b (dirty_of k dirty) → GoesBehind k v p cursor dirty b slots
  goes_clean b there = by k was there
    where
      by : (k : Kind) → IsWithin k cursor dirty slots → In b (dirty_of k dirty) → GoesBehind k v p cursor dirty b slots
      by kinds.Hidden w i = absurd i
      by kinds.Leaf w i = absurd i
      by kinds.Live w i =
          let f = w.blocks b i in
          record {
            cursor_then = cursor;
            dirty_then = without_dirty b dirty;
            goes = advanced_below v p cursor b dirty f.0;
            slot = f.1;
            rest = rest_cleaned cursor b dirty (λ x. (x < b) × (slot_at slots x ≡ None));
            within = record { cursor_within = w.cursor_within; blocks = λ x j. w.blocks x (in_without x b dirty j) };
            fewer = (let less = without_less b dirty i in omega (arith, less));
          }

  goes_behind : (b : ℕ) → (next_block cursor slots ≡ Some b) ⊎ In b (dirty_of k dirty) → GoesBehind k v p cursor dirty b slots
  goes_behind b due = ⊎_elim (λ next. goes_past b next) (λ there. goes_clean b there) due

module _ {s : Site} {t : VolumeTable} {m : Known} (o : IsOrderly s t m) (v p : Name) (is : IsCopyOf m.op v p) where
  running_in : IsWellFormed (shape_in s t m) → IsOperation (shape_in s t m) (copy_of is.0 v p is.1 is.2)
  unfolding shape_in
  running_in w = subst (IsOperation (shape_in s t m)) is.3 w.operation

  only_in : IsWellFormed (shape_in s t m) → IsOnlyChild (shape_in s t m) (is_hidden is.0) v p
  only_in w = only_of (shape_in s t m) is.0 v p is.1 is.2 (running_in w)

  row_of : (n : Name) (x : ImageRow) → In x (map machine_row m.rows) → x.name ≡ n → (y : TreeRow) × (tree_row m.rows n ≡ Some y) × (x ≡ machine_row y)
  row_of n x there named =
      let y = In-map machine_row m.rows x there in
      (y.0, ap (tree_row m.rows) (sym (sym (ap (λ (z : ImageRow). z.name) y.2) ∙ named)) ∙ row_found s t m o y.0 y.1, y.2)

  pub no_child : tree_row m.rows v ≡ None → ⊥
  unfolding shape_in
  no_child none = ∥∥₁_elim o.well_formed (hlevel props) (λ w.
      let c = (only_in w).link in
      let y = row_of v c.child c.there c.is_named in none-some y.0 (sym none ∙ y.1))

  pub no_parent : tree_row m.rows p ≡ None → ⊥
  unfolding shape_in
  no_parent none = ∥∥₁_elim o.well_formed (hlevel props) (λ w.
      let c = (only_in w).link in
      let z = w.parents c.child p c.there c.linked in
      let y = row_of p z.parent z.there z.is_named in none-some y.0 (sym none ∙ y.1))

  pub names_apart : v ≢ p
  unfolding shape_in
  names_apart same = ∥∥₁_elim o.well_formed (hlevel props) (λ w.
      let c = (only_in w).link in
      no_loop chain_limit v (shape_in s t m).images
      (ap (λ n. parent_of n (shape_in s t m).images) (sym c.is_named) ∙ parent_of-in (shape_in s t m).images c.child w.one_image c.there (w.images c.child c.there).named ∙ c.linked ∙ ap Some (sym same))
      (subst (λ n. EndsWithin chain_limit (Some n) (shape_in s t m).images) c.is_named (w.chains c.child c.there)))

  -- the child's table
  child_table : {i : TreeRow} → tree_row m.rows v ≡ Some i → table_of v (shape_in s t m) ≡ slots_of i.image
  unfolding shape_in
  child_table {i} child =
      let at : In i m.rows × (row_name i ≡ v) = In-tree_row m.rows v i child in ∥∥₁_elim o.well_formed (hlevel props) (λ w.
      let j = In-map_at machine_row m.rows i at.0 in
      ap (λ (o : Option ImageRow). elim o as (λ _. List (Option ℕ)) [ None ↦ [] | Some x ↦ x.slots ])
      (ap (λ n. find_image n (shape_in s t m).images) (sym at.1) ∙ find_image-in (shape_in s t m).images (machine_row i) w.one_image j (w.images (machine_row i) j).named))

  -- the block
  module _ {b : ℕ} {i : TreeRow} (may : MayCopy m.op (shape_in s t m) b) (child : tree_row m.rows v ≡ Some i) where
    due : (next_block is.1 (slots_of i.image) ≡ Some b) ⊎ In b (dirty_of is.0 is.2)
    unfolding next_step shape_in
    due = ⊎_elim
        (λ planned. ⊎_elim (λ next. inl (ap (next_block is.1) (sym (child_table child)) ∙ next)) (λ there. inr there)
        (block_of (shape_in s t m) is.0 v p is.1 b is.2 (sym (ap (plan_running (shape_in s t m)) is.3) ∙ planned)))
        (λ dirty. inr (dirty_in_list b (dirty_of is.0 is.2) (ap (is_dirty b) (sym (ap dirty_in is.3 ∙ dirty_is is.0 v p is.1 is.2)) ∙ dirty))) may

    row_is : (w : IsWellFormed (shape_in s t m)) → (only_in w).link.child.slots ≡ slots_of i.image
    unfolding shape_in
    row_is w =
        let c = (only_in w).link in
        let y = row_of v c.child c.there c.is_named in
        ap (λ (x : ImageRow). x.slots) (y.2 ∙ ap machine_row (same_Some y.0 i (sym y.1 ∙ child)))

    was_within : (w : IsWellFormed (shape_in s t m)) → IsWithin is.0 is.1 is.2 (slots_of i.image)
    unfolding only_in
    was_within w = subst (IsWithin is.0 is.1 is.2) (row_is w) (within_of (shape_in s t m) is.0 v p is.1 is.2 (running_in w))

    within : IsWithin is.0 is.1 is.2 (slots_of i.image)
    within = record {
      cursor_within = λ live. ∥∥₁_elim o.well_formed (hlevel props) (λ w. (was_within w).cursor_within live);
      blocks = λ x j. (∥∥₁_elim o.well_formed (hlevel props) (λ w. ((was_within w).blocks x j).0), ∥∥₁_elim o.well_formed (hlevel props) (λ w. ((was_within w).blocks x j).1));
    }

    pub to_copy_in : {q : TreeRow} → tree_row m.rows p ≡ Some q → IsToCopy s t m v p is.1 b i q
    to_copy_in parent = record {
      orderly = o;
      kind = is.0;
      dirty = is.2;
      op = is.3;
      next = goes_behind is.0 v p is.1 is.2 (slots_of i.image) within b due;
      child = child;
      parent = parent;
    }

  -- the rows are found, the child's once the parent's was taken out
  module _ {mid : List TreeRow} (rest : mid ≡ without p m.rows) where
    pub child_found : tree_row mid v ≡ tree_row m.rows v
    child_found = ap (λ rs. tree_row rs v) rest ∙ tree_row-without_other m.rows p v (λ same. names_apart (sym same))

    pub no_child_left : tree_row mid v ≡ None → ⊥
    no_child_left none = no_child (sym child_found ∙ none)

    pub to_copy : {b : ℕ} {i q : TreeRow} → MayCopy m.op (shape_in s t m) b → tree_row m.rows p ≡ Some q → tree_row mid v ≡ Some i → IsToCopy s t m v p is.1 b i q
    to_copy may parent child = to_copy_in may (sym child_found ∙ child) parent

module _ {s : Site} {t : VolumeTable} {m : Known} {v p : Name} {cursor b : ℕ} {i q : TreeRow} (h : IsToCopy s t m v p cursor b i q) where
  abbrev σ : Shape
  σ = shape_in s t m

  abbrev copies : IsCopyOf m.op v p
  copies = (h.kind, cursor, h.dirty, h.op)

  pub child_there : In i m.rows
  child_there = (In-tree_row m.rows v i h.child).0

  pub child_named : row_name i ≡ v
  child_named = (In-tree_row m.rows v i h.child).1

  pub there : In q m.rows
  there = (In-tree_row m.rows p q h.parent).0

  pub named : row_name q ≡ p
  named = (In-tree_row m.rows p q h.parent).1

  pub copies_only : IsWellFormed (shape_in s t m) → IsOnlyChild (shape_in s t m) (is_hidden h.kind) v p
  copies_only = only_in h.orderly v p copies

  pub copy_runs : IsWellFormed (shape_in s t m) → IsOperation (shape_in s t m) (copy_of h.kind v p cursor h.dirty)
  copy_runs = running_in h.orderly v p copies

  is_child : (w : IsWellFormed (shape_in s t m)) → (copies_only w).link.child ≡ machine_row i
  unfolding shape_in
  is_child w =
      let c = (copies_only w).link in
      let y = row_of h.orderly v p copies v c.child c.there c.is_named in
      y.2 ∙ ap machine_row (same_Some y.0 i (sym y.1 ∙ h.child))

  pub its_slots : (w : IsWellFormed (shape_in s t m)) → (only_of (shape_in s t m) h.kind v p cursor h.dirty (copy_runs w)).link.child.slots ≡ slots_of i.image
  unfolding copies_only copy_runs only_in
  its_slots w = ap (λ (x : ImageRow). x.slots) (is_child w)

  pub linked : parent_name i.image ≡ Some p
  unfolding shape_in
  linked = ∥∥₁_elim h.orderly.well_formed (hlevel props) (λ w. sym (ap (λ (x : ImageRow). x.parent) (is_child w)) ∙ (copies_only w).link.linked)

  pub child_vhd : is_vhd v ≡ true
  unfolding shape_in
  child_vhd = ∥∥₁_elim h.orderly.well_formed (hlevel props) (λ w. (copies_only w).link.vhd)

  pub hidden : q.hidden ≡ true
  unfolding shape_in
  hidden = ∥∥₁_elim h.orderly.well_formed (hlevel props) (λ w.
      let c = (copies_only w).link in
      let z = w.parents c.child p c.there c.linked in
      let y = row_of h.orderly v p copies p z.parent z.there z.is_named in
      sym (ap (λ (x : ImageRow). x.hidden) (y.2 ∙ ap machine_row (same_Some y.0 q (sym y.1 ∙ h.parent)))) ∙ z.is_hidden)

  pub only : (x : TreeRow) → In x m.rows → parent_name x.image ≡ Some p → row_name x ≡ v
  unfolding shape_in
  only x j parent = ∥∥₁_elim h.orderly.well_formed (hlevel props) (λ w. (copies_only w).only (machine_row x) (In-map_at machine_row m.rows x j) parent)

  pub same_size : sector_count q.image ≡ sector_count i.image
  unfolding shape_in
  same_size = ∥∥₁_elim h.orderly.well_formed (hlevel props) (λ w.
      (copies_only w).same_size (machine_row q) (In-map_at machine_row m.rows q there) named ∙ ap (λ (x : ImageRow). x.size) (is_child w))

  pub apart : v ≢ p
  apart = names_apart h.orderly v p copies

  pub its_table : table_of v (shape_in s t m) ≡ slots_of i.image
  its_table = child_table h.orderly v p copies h.child

  -- ---- the block

  pub has_slot : (k : ℕ) × (slot_at (slots_of i.image) b ≡ Some k)
  has_slot = some_there (slot_at (slots_of i.image) b) h.next.slot
    where
      some_there : (o : Option ℕ) → is_there o ≡ true → (k : ℕ) × (o ≡ Some k)
      some_there None e = absurd (let x = e in cc)
      some_there (Some k) e = (k, refl)
