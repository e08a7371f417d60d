-- Each step of the collector but the blocked and the idle one works off debt.
use Rattle.std.proofs.Common.{◌≡◌, ℕ, zero, suc, ◌+◌, ◌<◌, ◌≤◌, Bool, true, false, not, ◌&&◌, List, [], ◌∷◌, ◌++◌, length, drop, Option, Some, None, refl, sym, ap, ◌∙◌, subst, inl, inr, arith}
use Rattle.std.specs.Prelude.{nat_lt}
use Rattle.sm_machine.specs.Operations.{dirty_limit, without_dirty}
use Rattle.sm_machine.proofs.Lives.{without_less}
use Rattle.std.specs.List.{find, filter, list_any}
use Rattle.std.specs.Option.{option_map}
use Rattle.std.proofs.lemmas.Bool.{lt-ltb, ltb-true, and_parts}
use Rattle.std.proofs.lemmas.List.{length-map}
use Rattle.sm_base.specs.declared.names.Name.{Name}
use Rattle.sm_machine.specs.Operations.{Op}
use Rattle.sm_machine.specs.Operations as op
use Rattle.sm_base.specs.declared.operations.Plan.{Plan}
use Rattle.sm_base.specs.declared.operations.Plan.TheVariants as plan
use Rattle.common_laws.specs.Lists.{In, when, change}
use Rattle.sm_machine.specs.Shapes.{Shape, ImageRow, same_image, is_image, find_image, image_uuid, is_vhd, with_image, without_image, on_image, is_parent, children, parent_of, count_blocks, top, thin_in, image_extents}
use Rattle.sm_machine.specs.Collector.{Pair, Debt, IsLess, debt, phase, items_left, next_step, plan_idle, plan_running, plan_copy, copy_or, relink_or, blocked, clean_or, table_of, next_block, pairs, leaves, lives, fits, target, is_garbage, is_loose, is_written, collected, copied, turned, linked, swapped, given_block, given_blocks, with_found, as_leaf, with_block}
use Rattle.sm_machine.specs.WellFormed.{IsWellFormed, IsChild, HasParent, EndsWithin}
use Rattle.sm_machine.specs.declared.commands.Command.TheVariants.{Gc}
use Rattle.sm_machine.specs.Commits.{is_given_up, gives_up}
use Rattle.sm_machine.specs.Steps.{shape_after, shape_next}
use Rattle.sm_machine.specs.Laws.{is_working}
use Rattle.common_laws.proofs.Lists.{find-some, In-filter, filter-In, length-insert_by, Distinct-key, list_any-find}
use Rattle.sm_machine.proofs.Changes.{when-key, find-map, filter-map_less, filter_less, list_any-some}
use Rattle.sm_machine.proofs.Chains.{find_image-in, parent_of-in}
use Rattle.sm_machine.proofs.ImageNames.{same_image-sound, same_image-refl, other_image}
use Rattle.sm_machine.proofs.Tables.{count-next, next_found}

-- ---- no image is its own parent

endless : (k : ℕ) (n : Name) (images : List ImageRow) → parent_of n images ≡ Some n → EndsWithin k (Some n) images → ⊥
endless zero n images e h = h
endless (suc k) n images e h = endless k n images e (subst (λ (o : Option Name). EndsWithin k o images) e h)

module _ (s : Shape) (w : IsWellFormed s) where
  pub own_parent : (x : ImageRow) → In x s.images → x.parent ≡ Some x.name → ⊥
  own_parent x h e = endless 30 x.name s.images (parent_of-in s.images x w.one_image h (w.images x h).named ∙ e) (w.chains x h)

  -- an image and its parent have different names
  pub parent_apart : (x : ImageRow) (p : Name) → In x s.images → x.parent ≡ Some p → x.name ≡ p → ⊥
  parent_apart x p h e q = own_parent x h (e ∙ ap Some (sym q))

  pub found_row : (x : ImageRow) → In x s.images → find_image x.name s.images ≡ Some x
  found_row x h = find_image-in s.images x w.one_image h (w.images x h).named

  pub is_itself : (x : ImageRow) → In x s.images → is_image x.name x ≡ true
  is_itself x h = same_image-refl x.name (w.images x h).named

-- ---- lengths and extents after a change

pub length-on_image : (n : Name) (f : ImageRow → ImageRow) (images : List ImageRow) → length (on_image n f images) ≡ length images
length-on_image n f images = length-map images _

shrunk_le : (t : ImageRow → Bool) (f : ImageRow → ImageRow) (y : ImageRow) (c : Bool) → t y ≡ c → (t y ≡ true → (f y).extents ≤ y.extents) → (when c f y).extents ≤ y.extents
shrunk_le t f y true e h = h e
shrunk_le t f y false e h = omega arith

pub extents_le : (t : ImageRow → Bool) (f : ImageRow → ImageRow) (images : List ImageRow) → ((y : ImageRow) → In y images → t y ≡ true → (f y).extents ≤ y.extents) → image_extents (change t f images) ≤ image_extents images
unfolding image_extents
extents_le t f [] h = omega arith
extents_le t f (y ∷ ys) h =
    let a : (when (t y) f y).extents ≤ y.extents = shrunk_le t f y (t y) refl (h y (inl refl)) in
    let b : image_extents (change t f ys) ≤ image_extents ys = extents_le t f ys (λ z k. h z (inr k)) in
    omega arith

shrunk_less : (t : ImageRow → Bool) (f : ImageRow → ImageRow) (x y : ImageRow) (c : Bool) → t y ≡ c → x ≡ y → t x ≡ true → (f x).extents < x.extents → (when c f y).extents < y.extents
shrunk_less t f x y true e q p h = subst (λ (z : ImageRow). (f z).extents < z.extents) q h
shrunk_less t f x y false e q p h = let r : true ≡ false = sym p ∙ (ap t q ∙ e) in cc

extents_less : (t : ImageRow → Bool) (f : ImageRow → ImageRow) (images : List ImageRow) (x : ImageRow) → In x images → t x ≡ true → (f x).extents < x.extents → ((y : ImageRow) → In y images → t y ≡ true → (f y).extents ≤ y.extents) → image_extents (change t f images) < image_extents images
unfolding image_extents
extents_less t f [] x k p l h = absurd k
extents_less t f (y ∷ ys) x (inl q) p l h =
    let a : (when (t y) f y).extents < y.extents = shrunk_less t f x y (t y) refl q p l in
    let b : image_extents (change t f ys) ≤ image_extents ys = extents_le t f ys (λ z k. h z (inr k)) in
    omega arith
extents_less t f (y ∷ ys) x (inr k) p l h =
    let a : (when (t y) f y).extents ≤ y.extents = shrunk_le t f y (t y) refl (h y (inl refl)) in
    let b : image_extents (change t f ys) < image_extents ys = extents_less t f ys x k p l (λ z j. h z (inr j)) in
    omega arith

-- ---- debts

-- fewer images; as many, and a lower phase; the same phase, and less left
fewer : (a b : Debt) → a.images < b.images → IsLess a b
fewer a b h = inl h

-- ---- no operation runs

abbrev garbage_phase : Bool → ℕ
garbage_phase b = elim b [ true ↦ 1 | false ↦ 4 ]

cut_debt : (b : Bool) (n n' u u' : ℕ) → n' ≡ n → u' < u → IsLess (record { images = n'; phase = garbage_phase b; left = 0; used = u' }) (record { images = n; phase = 4; left = 0; used = u })
cut_debt true n n' u u' e h = inr (e, inl (omega arith))
cut_debt false n n' u u' e h = inr (e, inr (refl, inr (refl, h)))

begun_debt : (n n' l u u' : ℕ) → n' ≡ n → IsLess (record { images = n'; phase = 3; left = l; used = u' }) (record { images = n; phase = 4; left = 0; used = u })
begun_debt n n' l u u' e = inr (e, inl (omega arith))

blocked_rests : (s : Shape) (ps : List Pair) → is_working (blocked s ps) ≡ true → ⊥
blocked_rests s [] e = cc
blocked_rests s (p ∷ ps) e = cc

module _ (s : Shape) (w : IsWellFormed (record s { op = op.Idle })) where
  abbrev resting : Shape
  resting = record s { op = op.Idle }

  -- the debt where there is no childless hidden image
  clean : (d : Debt) → list_any (is_garbage resting) s.images ≡ false → IsLess d (record { images = length s.images; phase = 4; left = 0; used = s.others + image_extents s.images }) → IsLess d (debt resting)
  unfolding debt phase items_left
  clean d e h = subst (λ (b : Bool). IsLess d (record { images = length s.images; phase = garbage_phase b; left = 0; used = s.others + image_extents s.images })) (sym e) h

  removed : (i : ImageRow) → find (is_garbage resting) s.images ≡ Some i → IsLess (debt (collected (plan.Remove i.name) resting)) (debt resting)
  unfolding debt collected
  removed i e =
      let f : In i s.images × (is_garbage resting i ≡ true) = find-some (is_garbage resting) s.images i e in
      inl (filter_less (λ (j : ImageRow). not (is_image i.name j)) s.images i f.0 (ap not (is_itself resting w i f.0)))

  abbrev loose_to : ImageRow → ℕ
  loose_to i = thin_in resting (top i.slots)

  cut : (i : ImageRow) → find (is_garbage resting) s.images ≡ None → find (is_loose resting) s.images ≡ Some i → IsLess (debt (collected (plan.Deflate i.name (loose_to i)) resting)) (debt resting)
  unfolding debt phase items_left collected
  cut i g e =
      let f : In i s.images × (is_loose resting i ≡ true) = find-some (is_loose resting) s.images i e in
      let l : nat_lt (loose_to i) i.extents ≡ true = (and_parts (is_vhd i.name && not (is_written resting i)) (nat_lt (loose_to i) i.extents) f.1).1 in
      let less : loose_to i < i.extents = ltb-true (loose_to i) i.extents l in
      let images' : List ImageRow = on_image i.name (λ (j : ImageRow). record j { extents = loose_to i }) s.images in
      let fewer_extents : image_extents images' < image_extents s.images = extents_less (is_image i.name) (λ (j : ImageRow). record j { extents = loose_to i }) s.images i f.0 (is_itself resting w i f.0) less
      (λ y k q. subst (λ (z : ImageRow). loose_to i ≤ z.extents) (sym (Distinct-key (λ (j : ImageRow). image_uuid j.name) s.images y i w.one_image k f.0 (ap image_uuid (same_image-sound y.name i.name q)))) (omega arith)) in
      clean _ (list_any-find (is_garbage resting) s.images g)
      (cut_debt (list_any (is_garbage (record resting { images = images' })) images') (length s.images) (length images') (s.others + image_extents s.images) (s.others + image_extents images')
      (length-on_image i.name _ s.images) (omega arith))

  begun : (child parent : Name) (to : ℕ) → find (is_garbage resting) s.images ≡ None → IsLess (debt (collected (plan.Begin child parent to) resting)) (debt resting)
  unfolding debt phase collected
  begun child parent to g = clean _ (list_any-find (is_garbage resting) s.images g) (begun_debt (length s.images) _ _ _ _ (length-on_image parent _ s.images))

  leaf_begun : (child parent : Name) (to : ℕ) → find (is_garbage resting) s.images ≡ None → IsLess (debt (collected (plan.Leaf child parent to) resting)) (debt resting)
  unfolding debt phase collected
  leaf_begun child parent to g = clean _ (list_any-find (is_garbage resting) s.images g) (begun_debt (length s.images) _ _ _ _ (length-on_image parent _ s.images))

  live_begun : (child parent : Name) (to : ℕ) → find (is_garbage resting) s.images ≡ None → IsLess (debt (collected (plan.Live child parent to) resting)) (debt resting)
  unfolding debt phase collected
  live_begun child parent to g = clean _ (list_any-find (is_garbage resting) s.images g) (begun_debt (length s.images) _ _ _ _ (length-on_image parent _ s.images))

  abbrev idle_by : Option ImageRow → Option ImageRow → Option Pair → Option Pair → Option Pair → Plan
  idle_by g l p q r = elim g [ Some i ↦ plan.Remove i.name | None ↦ elim l [ Some i ↦ plan.Deflate i.name (loose_to i) | None ↦ elim p [ Some a ↦ plan.Begin a.child.name a.parent.name (target resting a) | None ↦ elim q [ Some a ↦ plan.Leaf a.child.name a.parent.name (target resting a) | None ↦ elim r [ Some a ↦ plan.Live a.child.name a.parent.name (target resting a) | None ↦ blocked resting (pairs resting ++ (leaves resting ++ lives resting)) ] ] ] ] ]

  by_rules : (g l : Option ImageRow) (p q r : Option Pair) → find (is_garbage resting) s.images ≡ g → find (is_loose resting) s.images ≡ l → is_working (idle_by g l p q r) ≡ true → IsLess (debt (collected (idle_by g l p q r) resting)) (debt resting)
  by_rules (Some i) l p q r a b h = removed i a
  by_rules None (Some i) p q r a b h = cut i a b
  by_rules None None (Some x) q r a b h = begun x.child.name x.parent.name (target resting x) a
  by_rules None None None (Some x) r a b h = leaf_begun x.child.name x.parent.name (target resting x) a
  by_rules None None None None (Some x) a b h = live_begun x.child.name x.parent.name (target resting x) a
  by_rules None None None None None a b h = absurd (blocked_rests resting (pairs resting ++ (leaves resting ++ lives resting)) h)

  idle_lowers : is_working (plan_idle resting) ≡ true → IsLess (debt (collected (plan_idle resting) resting)) (debt resting)
  unfolding plan_idle
  idle_lowers h = by_rules (find (is_garbage resting) s.images) (find (is_loose resting) s.images) (find (fits resting) (pairs resting)) (find (fits resting) (leaves resting)) (find (fits resting) (lives resting)) refl refl h

-- ---- a block is copied

block_name : (c : Bool) (b : ℕ) (y : ImageRow) → (elim c as (λ _. ImageRow) [ true ↦ record y { slots = with_block b y.slots } | false ↦ y ]).name ≡ y.name
block_name true b y = refl
block_name false b y = refl

pub given_block_name : (b : ℕ) (y : ImageRow) → (given_block b y).name ≡ y.name
given_block_name b y = block_name (is_vhd y.name) b y

slots_of : Option ImageRow → List (Option ℕ)
slots_of o = elim o [ None ↦ [] | Some i ↦ i.slots ]

when_false : {A : Type 0} (b : Bool) (f : A → A) (x : A) → b ≡ false → when b f x ≡ x
when_false true f x e = cc
when_false false f x e = refl

-- the table of another image stays
table_kept : (images : List ImageRow) (p : Name) (b : ℕ) (c : ImageRow) → find_image c.name images ≡ Some c → (c.name ≡ p → ⊥) → find_image c.name (on_image p (given_block b) images) ≡ Some c
table_kept images p b c e apart =
    let g : ImageRow → ImageRow = λ (y : ImageRow). when (is_image p y) (given_block b) y in
    let m : find_image c.name (on_image p (given_block b) images) ≡ option_map g (find_image c.name images) =
    find-map (is_image c.name) g (λ y. ap (λ (n : Name). same_image n c.name) (when-key (λ (z : ImageRow). z.name) (given_block b) (given_block_name b) (is_image p y) y)) images in
    m ∙ (ap (option_map g) e ∙ ap Some (when_false (is_image p c) (given_block b) c (other_image c.name p apart)))

copied_debt : (n n' a a' u u' : ℕ) → n' ≡ n → a' < a → IsLess (record { images = n'; phase = 3; left = a'; used = u' }) (record { images = n; phase = 3; left = a; used = u })
copied_debt n n' a a' u u' e h = inr (e, inr (refl, inl h))

module _ (s : Shape) (w : IsWellFormed s) (v p : Name) (c : ImageRow) (there : In c s.images) (called : c.name ≡ v) (linked_to : c.parent ≡ Some p) (cursor b : ℕ) (next : next_block cursor (table_of v s) ≡ Some b) where
  abbrev images_copied : List ImageRow
  images_copied = on_image p (given_block b) s.images

  table_was : table_of v s ≡ c.slots
  unfolding slots_of
  table_was = ap slots_of (subst (λ (n : Name). find_image n s.images ≡ Some c) called (found_row s w c there))

  table_is : (s' : Shape) → s'.images ≡ images_copied → table_of v s' ≡ c.slots
  unfolding slots_of
  table_is s' e = ap (λ (images : List ImageRow). slots_of (find_image v images)) e ∙ ap slots_of
      (subst (λ (n : Name). find_image n images_copied ≡ Some c) called (table_kept s.images p b c (found_row s w c there) (parent_apart s w c p there linked_to)))

  -- fewer blocks are left
  left_less : (s' : Shape) → s'.images ≡ images_copied → count_blocks (drop (b + 1) (table_of v s')) < count_blocks (drop cursor (table_of v s))
  left_less s' e =
      let n : next_block cursor c.slots ≡ Some b = subst (λ (xs : List (Option ℕ)). next_block cursor xs ≡ Some b) table_was next in
      let r : count_blocks (drop (b + 1) c.slots) < count_blocks (drop cursor c.slots) = count-next cursor b c.slots n in
      subst (λ (xs : List (Option ℕ)). count_blocks (drop (b + 1) xs) < count_blocks (drop cursor (table_of v s))) (sym (table_is s' e))
      (subst (λ (xs : List (Option ℕ)). count_blocks (drop (b + 1) c.slots) < count_blocks (drop cursor xs)) (sym table_was) r)

-- the table of the copied image stays
pub table_same : (s : Shape) (w : IsWellFormed s) (v p : Name) (c : ImageRow) → In c s.images → c.name ≡ v → c.parent ≡ Some p → (b : ℕ) (s' : Shape) → s'.images ≡ on_image p (given_block b) s.images → table_of v s' ≡ table_of v s
unfolding slots_of
table_same s w v p c there called linked_to b s' e =
    ap (λ (images : List ImageRow). slots_of (find_image v images)) e
    ∙ ap slots_of (subst (λ (n : Name). find_image n (on_image p (given_block b) s.images) ≡ Some c) called (table_kept s.images p b c (found_row s w c there) (parent_apart s w c p there linked_to)))
    ∙ sym (ap slots_of (subst (λ (n : Name). find_image n s.images ≡ Some c) called (found_row s w c there)))

-- ---- a copy

module _ (s : Shape) (v p : Name) (cursor : ℕ) (w : IsWellFormed (record s { op = op.Copy v p cursor })) where
  abbrev copying : Shape
  copying = record s { op = op.Copy v p cursor }

  abbrev the_child : ImageRow
  the_child = w.operation.link.child

  copy_lowers : (b : ℕ) → next_block cursor (table_of v copying) ≡ Some b → IsLess (debt (collected (plan.Copy b) copying)) (debt copying)
  unfolding debt phase items_left collected copied
  copy_lowers b e = copied_debt (length s.images) _ _ _ _ _ (length-on_image p (given_block b) s.images)
      (left_less copying w v p the_child w.operation.link.there w.operation.link.is_named w.operation.link.linked cursor b e (collected (plan.Copy b) copying) refl)

  turn_lowers : IsLess (debt (collected plan.Turn copying)) (debt copying)
  unfolding debt phase items_left collected turned
  turn_lowers = inr (refl, inl (omega arith))

  -- the child is hidden and has no children
  abandon_lowers : children v s.images ≡ [] → IsLess (debt (collected plan.Abandon copying)) (debt copying)
  unfolding debt phase items_left collected
  abandon_lowers e =
      let link : IsChild copying true v p = w.operation.link in
      let idle : Shape = record s { op = op.Idle } in
      let none : length (children link.child.name s.images) ≡ 0 = ap (λ (n : Name). length (children n s.images)) link.is_named ∙ ap length e in
      let g : is_garbage idle link.child ≡ true = rw (link.is_shown, none) refl in
      let a : list_any (is_garbage idle) s.images ≡ true = list_any-some (is_garbage idle) s.images link.child link.there g in
      inr (refl, inl (subst (λ (b : Bool). garbage_phase b < 3) (sym a) (omega arith)))

  by_block : (o : Option ℕ) → next_block cursor (table_of v copying) ≡ o → IsLess (debt (collected (copy_or plan.Turn o) copying)) (debt copying)
  by_block None e = turn_lowers
  by_block (Some b) e = copy_lowers b e

  by_children : (is : List ImageRow) → children v s.images ≡ is → IsLess (debt (collected (plan_copy copying v cursor is) copying)) (debt copying)
  by_children [] e = abandon_lowers e
  by_children (i ∷ is) e = by_block (next_block cursor (table_of v copying)) refl

  copying_lowers : IsLess (debt (collected (plan_running copying (op.Copy v p cursor)) copying)) (debt copying)
  unfolding plan_running
  copying_lowers = by_children (children v s.images) refl

-- ---- children are linked

module _ (s : Shape) (v p : Name) (w : IsWellFormed (record s { op = op.Relink v p })) where
  abbrev linking : Shape
  linking = record s { op = op.Relink v p }

  finish_lowers : children v s.images ≡ [] → IsLess (debt (collected plan.Finish linking)) (debt linking)
  unfolding debt phase items_left collected
  finish_lowers e =
      let link : IsChild linking true v p = w.operation in
      let idle : Shape = record s { op = op.Idle } in
      let none : length (children link.child.name s.images) ≡ 0 = ap (λ (n : Name). length (children n s.images)) link.is_named ∙ ap length e in
      let g : is_garbage idle link.child ≡ true = rw (link.is_shown, none) refl in
      let a : list_any (is_garbage idle) s.images ≡ true = list_any-some (is_garbage idle) s.images link.child link.there g in
      inr (refl, inl (subst (λ (b : Bool). garbage_phase b < 2) (sym a) (omega arith)))

  -- the parent is not the image that is left
  parent_other : same_image p v ≡ false
  parent_other =
      let link : IsChild linking true v p = w.operation in
      other_image p v (λ e. parent_apart linking w link.child p link.there link.linked (link.is_named ∙ sym e))

  abbrev link_to : ImageRow → ImageRow
  link_to i = record i { parent = Some p }

  not_more : (c : Name) (y : ImageRow) (b : Bool) → is_parent v (when b link_to y).parent ≡ true → is_parent v y.parent ≡ true
  not_more c y true h = let r : same_image p v ≡ true = h in let q : same_image p v ≡ false = parent_other in cc
  not_more c y false h = h

  when_true : (b : Bool) (x : ImageRow) → b ≡ true → when b link_to x ≡ link_to x
  when_true true x e = refl
  when_true false x e = cc

  link_lowers : (c : ImageRow) (others : List ImageRow) → children v s.images ≡ c ∷ others → IsLess (debt (collected (plan.RelinkOne c.name) linking)) (debt linking)
  unfolding debt phase items_left collected linked children
  link_lowers c others e =
      let in_front : In c (filter (λ (i : ImageRow). is_parent v i.parent) s.images) = subst (λ (xs : List ImageRow). In c xs) (sym e) (inl refl) in
      let f : In c s.images × (is_parent v c.parent ≡ true) = In-filter (λ (i : ImageRow). is_parent v i.parent) s.images c in_front in
      let moved : when (is_image c.name c) link_to c ≡ link_to c = when_true (is_image c.name c) c (is_itself linking w c f.0) in
      let gone : is_parent v (when (is_image c.name c) link_to c).parent ≡ false = ap (λ (i : ImageRow). is_parent v i.parent) moved ∙ parent_other in
      inr (
        length-on_image c.name link_to s.images,
        inr (
          refl,
          inl
              (filter-map_less (λ (i : ImageRow). is_parent v i.parent) (λ (y : ImageRow). when (is_image c.name y) link_to y) s.images c f.0 f.1 gone (λ y k h. not_more c.name y (is_image c.name y) h)),
        ),
      )

  by_child : (is : List ImageRow) → children v s.images ≡ is → IsLess (debt (collected (relink_or is) linking)) (debt linking)
  by_child [] e = finish_lowers e
  by_child (c ∷ others) e = link_lowers c others e

  linking_lowers : IsLess (debt (collected (plan_running linking (op.Relink v p)) linking)) (debt linking)
  unfolding plan_running
  linking_lowers = by_child (children v s.images) refl

-- ---- a leaf is folded

module _ (s : Shape) (l p : Name) (cursor : ℕ) (w : IsWellFormed (record s { op = op.Leaf l p cursor })) where
  abbrev folding : Shape
  folding = record s { op = op.Leaf l p cursor }

  abbrev leaf_link : IsChild folding false l p
  leaf_link = w.operation.0.link

  leaf_copy_lowers : (b : ℕ) → next_block cursor (table_of l folding) ≡ Some b → IsLess (debt (collected (plan.Copy b) folding)) (debt folding)
  unfolding debt phase items_left collected copied
  leaf_copy_lowers b e = copied_debt (length s.images) _ _ _ _ _ (length-on_image p (given_block b) s.images)
      (left_less folding w l p leaf_link.child leaf_link.there leaf_link.is_named leaf_link.linked cursor b e (collected (plan.Copy b) folding) refl)

  the_parent : HasParent s.images leaf_link.child p
  the_parent = w.parents leaf_link.child p leaf_link.there leaf_link.linked

  without_both : length (without_image p (without_image l s.images)) + 2 ≤ length s.images
  without_both =
      let c : ImageRow = leaf_link.child in
      let a : length (without_image l s.images) < length s.images = filter_less (λ (j : ImageRow). not (is_image l j)) s.images c leaf_link.there
      (ap not (subst (λ (n : Name). is_image n c ≡ true) leaf_link.is_named (is_itself folding w c leaf_link.there))) in
      let q : ImageRow = the_parent.parent in
      let apart : q.name ≡ l → ⊥ = λ (e : q.name ≡ l). parent_apart folding w c p leaf_link.there leaf_link.linked (leaf_link.is_named ∙ (sym e ∙ the_parent.is_named)) in
      let stays : In q (without_image l s.images) = filter-In (λ (j : ImageRow). not (is_image l j)) s.images q the_parent.there (ap not (other_image q.name l apart)) in
      let b : length (without_image p (without_image l s.images)) < length (without_image l s.images) = filter_less (λ (j : ImageRow). not (is_image p j)) (without_image l s.images) q stays
      (ap not (subst (λ (n : Name). is_image n q ≡ true) the_parent.is_named (is_itself folding w q the_parent.there))) in
      omega arith

  with_found_le : (o : Option ImageRow) (f : ImageRow → ImageRow) (images : List ImageRow) → length (with_found o f images) ≤ length images + 1
  unfolding with_image
  with_found_le None f images = omega arith
  with_found_le (Some i) f images = let e : length (with_image (f i) images) ≡ suc (length images) = length-insert_by _ (f i) images in omega arith

  swap_lowers : IsLess (debt (collected plan.Swap folding)) (debt folding)
  unfolding debt collected swapped
  swap_lowers =
      let a : length (without_image p (without_image l s.images)) + 2 ≤ length s.images = without_both in
      let b : length (with_found (find_image p s.images) (as_leaf l) (without_image p (without_image l s.images))) ≤ length (without_image p (without_image l s.images)) + 1 = with_found_le (find_image p s.images) (as_leaf l) (without_image p (without_image l s.images)) in
      inl (omega arith)

  by_leaf_block : (o : Option ℕ) → next_block cursor (table_of l folding) ≡ o → IsLess (debt (collected (copy_or plan.Swap o) folding)) (debt folding)
  by_leaf_block None e = swap_lowers
  by_leaf_block (Some b) e = leaf_copy_lowers b e

  folding_lowers : IsLess (debt (collected (plan_running folding (op.Leaf l p cursor)) folding)) (debt folding)
  unfolding plan_running
  folding_lowers = by_leaf_block (next_block cursor (table_of l folding)) refl

-- ---- the leaf of an attached disk is folded

live_less : (n n' a a' u u' : ℕ) → n' ≡ n → a' < a → IsLess (record { images = n'; phase = 3; left = a'; used = u' }) (record { images = n; phase = 3; left = a; used = u })
live_less n n' a a' u u' e h = inr (e, inr (refl, inl h))

module _ (s : Shape) (l p : Name) (cursor : ℕ) (dirty : List ℕ) (w : IsWellFormed (record s { op = op.Live l p cursor dirty })) where
  abbrev living : Shape
  living = record s { op = op.Live l p cursor dirty }

  abbrev live_link : IsChild living false l p
  live_link = w.operation.only.link

  abbrev live_after : Op → ℕ → Shape
  live_after o b = record s { images = on_image p (given_block b) s.images; op = o }

  live_copy_lowers : (b : ℕ) → next_block cursor (table_of l living) ≡ Some b → IsLess (debt (collected (plan.Copy b) living)) (debt living)
  unfolding debt phase items_left collected copied
  live_copy_lowers b e = by (nat_lt b cursor) refl
    where
      by : (c : Bool) → nat_lt b cursor ≡ c → IsLess (debt (live_after (elim c as (λ _. Op) [ true ↦ op.Live l p cursor (without_dirty b dirty) | false ↦ op.Live l p (b + 1) dirty ]) b)) (debt living)
      by true f = (let low : b < cursor = ltb-true b cursor f in let high : cursor ≤ b = (next_found cursor b (table_of l living) e).0 in absurd (omega arith))
      by false f = live_less (length s.images) _ _ _ _ _ (length-on_image p (given_block b) s.images)
          (let less = left_less living w l p live_link.child live_link.there live_link.is_named live_link.linked cursor b e (live_after (op.Live l p (b + 1) dirty) b) refl in omega (arith, less))

  -- a dirty block is copied again
  live_clean_lowers : (b : ℕ) → In b dirty → IsLess (debt (collected (plan.Copy b) living)) (debt living)
  unfolding debt phase items_left collected copied
  live_clean_lowers b i = by (nat_lt b cursor) refl
    where
      below : b < cursor
      below = (w.operation.blocks b i).0

      by : (c : Bool) → nat_lt b cursor ≡ c → IsLess (debt (live_after (elim c as (λ _. Op) [ true ↦ op.Live l p cursor (without_dirty b dirty) | false ↦ op.Live l p (b + 1) dirty ]) b)) (debt living)
      by true f = live_less (length s.images) _ _ _ _ _ (length-on_image p (given_block b) s.images)
          (let fewer = without_less b dirty i in
          let same : count_blocks (drop cursor (table_of l (live_after (op.Live l p cursor (without_dirty b dirty)) b))) ≡ count_blocks (drop cursor (table_of l living)) =
          ap (λ xs. count_blocks (drop cursor xs)) (table_same living w l p live_link.child live_link.there live_link.is_named live_link.linked b (live_after (op.Live l p cursor (without_dirty b dirty)) b) refl) in omega (arith, fewer, same))
      by false f = (let t : nat_lt b cursor ≡ true = lt-ltb b cursor below in cc)

  live_parent : HasParent s.images live_link.child p
  live_parent = w.parents live_link.child p live_link.there live_link.linked

  live_without_both : length (without_image p (without_image l s.images)) + 2 ≤ length s.images
  live_without_both =
      let c : ImageRow = live_link.child in
      let a : length (without_image l s.images) < length s.images = filter_less (λ (j : ImageRow). not (is_image l j)) s.images c live_link.there
      (ap not (subst (λ (n : Name). is_image n c ≡ true) live_link.is_named (is_itself living w c live_link.there))) in
      let q : ImageRow = live_parent.parent in
      let apart : q.name ≡ l → ⊥ = λ (e : q.name ≡ l). parent_apart living w c p live_link.there live_link.linked (live_link.is_named ∙ (sym e ∙ live_parent.is_named)) in
      let stays : In q (without_image l s.images) = filter-In (λ (j : ImageRow). not (is_image l j)) s.images q live_parent.there (ap not (other_image q.name l apart)) in
      let b : length (without_image p (without_image l s.images)) < length (without_image l s.images) = filter_less (λ (j : ImageRow). not (is_image p j)) (without_image l s.images) q stays
      (ap not (subst (λ (n : Name). is_image n q ≡ true) live_parent.is_named (is_itself living w q live_parent.there))) in
      omega arith

  live_found_le : (o : Option ImageRow) (f : ImageRow → ImageRow) (images : List ImageRow) → length (with_found o f images) ≤ length images + 1
  unfolding with_image
  live_found_le None f images = omega arith
  live_found_le (Some i) f images = let e : length (with_image (f i) images) ≡ suc (length images) = length-insert_by _ (f i) images in omega arith

  live_swap_lowers : IsLess (debt (collected plan.Swap living)) (debt living)
  unfolding debt collected swapped
  live_swap_lowers =
      let a : length (without_image p (without_image l s.images)) + 2 ≤ length s.images = live_without_both in
      let b = live_found_le (find_image p s.images) (λ q. as_leaf l (given_blocks dirty q)) (without_image p (without_image l s.images)) in
      inl (omega (arith, a, b))

  live_clean : (ds : List ℕ) → ((b : ℕ) → In b ds → In b dirty) → IsLess (debt (collected (clean_or ds) living)) (debt living)
  live_clean [] all = live_swap_lowers
  live_clean (d ∷ ds) all = by (nat_lt dirty_limit (length (d ∷ ds)))
    where
      by : (c : Bool) → IsLess (debt (collected (elim c as (λ _. Plan) [ true ↦ plan.Copy d | false ↦ plan.Swap ]) living)) (debt living)
      by true = live_clean_lowers d (all d (inl refl))
      by false = live_swap_lowers

  by_live_block : (o : Option ℕ) → next_block cursor (table_of l living) ≡ o → IsLess (debt (collected (copy_or (clean_or dirty) o) living)) (debt living)
  by_live_block None e = live_clean dirty (λ b i. i)
  by_live_block (Some b) e = live_copy_lowers b e

  living_lowers : IsLess (debt (collected (plan_running living (op.Live l p cursor dirty)) living)) (debt living)
  unfolding plan_running
  living_lowers = by_live_block (next_block cursor (table_of l living)) refl

-- ---- every step

with_operation : (s : Shape) (o : Op) → IsWellFormed (record s { op = o }) → is_working (plan_running (record s { op = o }) o) ≡ true → IsLess (debt (collected (plan_running (record s { op = o }) o) (record s { op = o }))) (debt (record s { op = o }))
unfolding plan_running
with_operation s op.Idle w h = idle_lowers s w h
with_operation s (op.Copy v p cursor) w h = copying_lowers s v p cursor w
with_operation s (op.Relink v p) w h = linking_lowers s v p w
with_operation s (op.Leaf l p cursor) w h = folding_lowers s l p cursor w
with_operation s (op.Live l p cursor dirty) w h = living_lowers s l p cursor dirty w

pub collected_lowers : (s : Shape) → IsWellFormed s → is_working (next_step s) ≡ true → IsLess (debt (collected (next_step s) s)) (debt s)
unfolding next_step
collected_lowers s w h = with_operation s s.op w h

pub step_lowers : (s : Shape) → IsWellFormed s → is_working (next_step s) ≡ true → IsLess (debt (shape_next s Gc)) (debt s)
unfolding shape_next is_given_up gives_up shape_after debt phase items_left
step_lowers s w h = collected_lowers s w h
