-- A leaf that is swapped for its parent keeps a shape well-formed.
use Rattle.std.proofs.Common.{◌≡◌, ℕ, suc, ◌+◌, ◌<◌, ◌≤◌, Bool, true, false, cond, not, ◌⊎◌, List, [], ◌∷◌, map, length, Option, Some, None, refl, sym, ap, ◌∙◌, subst, inl, inr, arith}
use Rattle.std.specs.List.{filter}
use Rattle.sm_base.specs.declared.names.Name.{Name}
use Rattle.sm_base.specs.declared.names.Name.TheVariants.{Vhd}
use Rattle.sm_machine.specs.Operations.{Op}
use Rattle.sm_machine.specs.Operations as op
use Rattle.sm_base.specs.declared.operations.Mode.TheVariants.{Rw}
use Rattle.common_laws.specs.Lists.{In, Distinct, when}
use Rattle.sm_machine.specs.Shapes.{Shape, ImageRow, DiskRecord, Attachment, same_image, is_image, find_image, image_uuid, is_rw, is_there, is_vhd, on_image, parent_of, slot_at, with_image, without_image, image_extents, thick_in}
use Rattle.sm_machine.specs.Collector.{as_leaf, given_block, given_blocks, with_block, with_found, swapped}
use Rattle.sm_machine.specs.WellFormed.{IsWellFormed, IsImageRow, HasParent, HasImage, HasRecord, IsChild, IsLive, IsOnlyChild, EndsWithin, is_image_name, table_length}
use Rattle.sm_machine.proofs.Faces.{AreSeen}
use Rattle.common_laws.proofs.Lists.{find-some, In-map, In-filter, filter-In, In-insert, In-insert_new, In-insert_old, Distinct-key, Distinct-filter, Distinct-insert, Sorted-filter, length-insert_by}
use Rattle.sm_machine.proofs.Changes.{filter_less, find-map, when-key}
use Rattle.std.specs.Option.{option_map}
use Rattle.std.proofs.Common.{ap₂}
use Rattle.sm_machine.proofs.Chains.{parent_of-in, ends_alike, OfName, IsThere}
use Rattle.sm_machine.proofs.ImageNames.{same_image-sound, other_image, images_sorted}
use Rattle.sm_machine.proofs.Numbers.{extents-with_image}
use Rattle.sm_machine.proofs.Guests.{mode_none}
use Rattle.sm_machine.proofs.Debts.{parent_apart, found_row, given_block_name, is_itself}
use Rattle.sm_machine.proofs.Collects.{attached_mode, block_table, copy_extents, copy_keeps, copy_links, copy_marks, copy_names, copy_sizes, on_copy}
use Rattle.sm_machine.proofs.Lives.{there_given, there_when}
use Rattle.sm_machine.proofs.Mapped.{live_mapped}
use Rattle.sm_machine.proofs.Deletes.{extents-filter}

-- the extents of what stays, where one goes
pub extents-filter_out : (t : ImageRow → Bool) (xs : List ImageRow) (q : ImageRow) → In q xs → t q ≡ false → image_extents (filter t xs) + q.extents ≤ image_extents xs
unfolding image_extents
extents-filter_out t [] q h e = absurd h
extents-filter_out t (x ∷ xs) q (inl p) e = here (t x) (ap t (sym p) ∙ e) (extents-filter t xs) (ap (λ (i : ImageRow). i.extents) p)
  where
    here : (b : Bool) → b ≡ false → image_extents (filter t xs) ≤ image_extents xs → q.extents ≡ x.extents → image_extents (cond b (x ∷ filter t xs) (filter t xs)) + q.extents ≤ x.extents + image_extents xs
    here true f h g = cc
    here false f h g = omega arith
extents-filter_out t (x ∷ xs) q (inr k) e = deep (t x) (extents-filter_out t xs q k e)
  where
    deep : (b : Bool) → image_extents (filter t xs) + q.extents ≤ image_extents xs → image_extents (cond b (x ∷ filter t xs) (filter t xs)) + q.extents ≤ x.extents + image_extents xs
    deep true h = omega arith
    deep false h = omega arith

-- one image less
pub In-without : (n : Name) (xs : List ImageRow) (x : ImageRow) → In x (without_image n xs) → In x xs × (same_image x.name n ≡ false)
In-without n xs x h = let r : In x xs × (not (is_image n x) ≡ true) = In-filter (λ (i : ImageRow). not (is_image n i)) xs x h in (r.0, not_true (is_image n x) r.1)
  where
    not_true : (b : Bool) → not b ≡ true → b ≡ false
    not_true true e = cc
    not_true false e = refl

pub In-without_kept : (n : Name) (xs : List ImageRow) (x : ImageRow) → In x xs → (x.name ≡ n → ⊥) → In x (without_image n xs)
In-without_kept n xs x h apart = filter-In (λ (i : ImageRow). not (is_image n i)) xs x h (ap not (other_image x.name n apart))

-- the operation folds a leaf whose parent has room for all blocks where the disk is written to
module _ (s : Shape) (o : Op) (l p : Name) (w : IsWellFormed (record s { op = o })) (only : IsOnlyChild (record s { op = o }) false l p) (parent_vhd : is_vhd p ≡ true)
    (roomy : (a : Attachment) → In a s.attached → a.mode ≡ Rw → image_uuid l ≡ a.disk → (q : ImageRow) → In q s.images → q.name ≡ p → thick_in s q.size ≤ q.extents) where
  abbrev pub folding : Shape
  folding = record s { op = o }

  abbrev pub link : IsChild folding false l p
  link = only.link

  abbrev pub leaf : ImageRow
  leaf = link.child

  abbrev pub over : HasParent s.images leaf p
  over = w.parents leaf p link.there link.linked

  abbrev pub base : ImageRow
  base = over.parent

  abbrev pub moved : ImageRow
  moved = as_leaf l base

  abbrev pub rest : List ImageRow
  rest = without_image p (without_image l s.images)

  abbrev pub swapped_images : List ImageRow
  swapped_images = with_image moved rest

  pub found_base : find_image p s.images ≡ Some base
  found_base = subst (λ (n : Name). find_image n s.images ≡ Some base) over.is_named (found_row folding w base over.there)

  was : (x : ImageRow) → In x rest → In x s.images
  was x h = (In-without l s.images x (In-without p (without_image l s.images) x h).0).0

  not_leaf : (x : ImageRow) → In x rest → x.name ≡ l → ⊥
  not_leaf x h e =
      let f : same_image x.name l ≡ false = (In-without l s.images x (In-without p (without_image l s.images) x h).0).1 in
      let t : same_image x.name l ≡ true = ap (λ (n : Name). same_image n l) (e ∙ sym link.is_named) ∙ (ap (same_image leaf.name) (sym link.is_named) ∙ is_itself folding w leaf link.there) in
      cc

  not_base : (x : ImageRow) → In x rest → x.name ≡ p → ⊥
  not_base x h e =
      let f : same_image x.name p ≡ false = (In-without p (without_image l s.images) x h).1 in
      let t : same_image x.name p ≡ true = ap (λ (n : Name). same_image n p) (e ∙ sym over.is_named) ∙ (ap (same_image base.name) (sym over.is_named) ∙ is_itself folding w base over.there) in
      cc

  stays : (x : ImageRow) → In x s.images → (x.name ≡ l → ⊥) → (x.name ≡ p → ⊥) → In x rest
  stays x h a b = In-without_kept p (without_image l s.images) x (In-without_kept l s.images x h a) b

  rest_distinct : Distinct (map (λ (i : ImageRow). image_uuid i.name) rest)
  rest_distinct = Distinct-filter (λ (i : ImageRow). image_uuid i.name) _ (without_image l s.images) (Distinct-filter (λ (i : ImageRow). image_uuid i.name) _ s.images w.one_image)

  same_leaf : (x : ImageRow) → In x s.images → image_uuid x.name ≡ image_uuid l → x ≡ leaf
  same_leaf x h e = Distinct-key (λ (i : ImageRow). image_uuid i.name) s.images x leaf w.one_image h link.there (e ∙ sym (ap image_uuid link.is_named))

  distinct_swapped : Distinct (map (λ (i : ImageRow). image_uuid i.name) swapped_images)
  unfolding with_image
  distinct_swapped = Distinct-insert (λ (i : ImageRow). image_uuid i.name) _ moved rest rest_distinct (λ h.
      let r : (x : ImageRow) × In x rest × (image_uuid l ≡ image_uuid x.name) = In-map (λ (i : ImageRow). image_uuid i.name) rest _ h in
      not_leaf r.0 r.1 (ap (λ (i : ImageRow). i.name) (same_leaf r.0 (was r.0 r.1) (sym r.2)) ∙ link.is_named))

  in_swapped : (x : ImageRow) → In x swapped_images → (x ≡ moved) ⊎ In x rest
  unfolding with_image
  in_swapped x h = In-insert _ moved rest x h

  rest_there : (x : ImageRow) → In x rest → In x swapped_images
  unfolding with_image
  rest_there x h = In-insert_old _ moved rest x h

  moved_there : In moved swapped_images
  unfolding with_image
  moved_there = In-insert_new _ moved rest

  vhd_name : (n : Name) → is_vhd n ≡ true → (is_image_name n ≡ true) × (table_length s n ≡ s.entries)
  unfolding is_vhd is_image_name table_length
  vhd_name (Vhd u) e = (refl, refl)
  vhd_name _ e = cc

  moved_image : IsImageRow s moved
  unfolding table_length
  moved_image =
      let g : IsImageRow folding base = w.images base over.there in
      let b : table_length s base.name ≡ s.entries = ap (table_length s) over.is_named ∙ (vhd_name p parent_vhd).1 in
      record { named = (vhd_name l link.vhd).0; whole = g.whole; volume = g.volume; table = g.table ∙ (b ∙ sym (vhd_name l link.vhd).1); raw = λ e. (let q : is_vhd l ≡ true = link.vhd in cc) }

  -- a hidden parent is not the leaf, and the base has no child but the leaf
  parent_stays : (x : ImageRow) (n : Name) → In x s.images → (x.name ≡ l → ⊥) → x.parent ≡ Some n → HasParent rest x n
  parent_stays x n h apart e =
      let g : HasParent s.images x n = w.parents x n h e in
      let a : g.parent.name ≡ l → ⊥ = λ (q : g.parent.name ≡ l).
      let same : g.parent ≡ leaf = same_leaf g.parent g.there (ap image_uuid q) in
      let f : true ≡ false = sym g.is_hidden ∙ (ap (λ (i : ImageRow). i.hidden) same ∙ link.is_shown) in cc in
      let b : g.parent.name ≡ p → ⊥ = λ (q : g.parent.name ≡ p). apart (only.only x h (e ∙ ap Some (sym g.is_named ∙ q))) in
      record { parent = g.parent; there = stays g.parent g.there a b; is_named = g.is_named; is_hidden = g.is_hidden; not_larger = g.not_larger }

  base_not_leaf : base.name ≡ l → ⊥
  base_not_leaf e = parent_apart folding w leaf p link.there link.linked (link.is_named ∙ (sym e ∙ over.is_named))

  lift : (x : ImageRow) (n : Name) → HasParent rest x n → HasParent swapped_images x n
  lift x n g = record { parent = g.parent; there = rest_there g.parent g.there; is_named = g.is_named; is_hidden = g.is_hidden; not_larger = g.not_larger }

  moved_parent : (n : Name) → base.parent ≡ Some n → HasParent rest moved n
  moved_parent n e = let g : HasParent rest base n = parent_stays base n over.there base_not_leaf e in
      record { parent = g.parent; there = g.there; is_named = g.is_named; is_hidden = g.is_hidden; not_larger = g.not_larger }

  parents_good : (x : ImageRow) (n : Name) → In x swapped_images → x.parent ≡ Some n → HasParent swapped_images x n
  parents_good x n h e = elim (in_swapped x h) [
    | inl q ↦ subst (λ (i : ImageRow). HasParent swapped_images i n) (sym q) (lift moved n (moved_parent n (sym (ap (λ (i : ImageRow). i.parent) q) ∙ e)))
    | inr k ↦ lift x n (parent_stays x n (was x k) (not_leaf x k) e)
  ]

  -- the images that stay keep their parents
  same_parent : (n : Name) → IsThere rest n → parent_of n swapped_images ≡ parent_of n s.images
  same_parent n k =
      let named : is_image_name k.0.name ≡ true = (w.images k.0 (was k.0 k.1)).named in
      subst (λ (m : Name). parent_of m swapped_images ≡ parent_of m s.images) k.2
      (parent_of-in swapped_images k.0 distinct_swapped (rest_there k.0 k.1) named ∙ sym (parent_of-in s.images k.0 w.one_image (was k.0 k.1) named))

  rest_up : (n m : Name) → IsThere rest n → parent_of n s.images ≡ Some m → IsThere rest m
  rest_up n m k e =
      let named : is_image_name k.0.name ≡ true = (w.images k.0 (was k.0 k.1)).named in
      let q : k.0.parent ≡ Some m = sym (subst (λ (x : Name). parent_of x s.images ≡ k.0.parent) k.2 (parent_of-in s.images k.0 w.one_image (was k.0 k.1) named)) ∙ e in
      let g : HasParent rest k.0 m = parent_stays k.0 m (was k.0 k.1) (not_leaf k.0 k.1) q in
      (g.parent, g.there, g.is_named)

  base_up : (o : Option Name) → base.parent ≡ o → OfName (IsThere rest) o
  base_up None e = tt
  base_up (Some m) e = let g : HasParent rest base m = parent_stays base m over.there base_not_leaf e in (g.parent, g.there, g.is_named)

  moved_ends : EndsWithin 30 (Some l) swapped_images
  moved_ends =
      let a : EndsWithin 29 (parent_of base.name s.images) s.images = w.chains base over.there in
      let b : EndsWithin 29 base.parent s.images = subst (λ (o : Option Name). EndsWithin 29 o s.images) (parent_of-in s.images base w.one_image over.there (w.images base over.there).named) a in
      let c : EndsWithin 29 base.parent swapped_images = ends_alike s.images swapped_images (IsThere rest) same_parent rest_up 29 base.parent (base_up base.parent refl) b in
      let d : parent_of l swapped_images ≡ base.parent = parent_of-in swapped_images moved distinct_swapped moved_there (vhd_name l link.vhd).0 in
      subst (λ (o : Option Name). EndsWithin 29 o swapped_images) (sym d) c

  chains_good : (x : ImageRow) → In x swapped_images → EndsWithin 30 (Some x.name) swapped_images
  chains_good x h = elim (in_swapped x h) [
    | inl q ↦ subst (λ (i : ImageRow). EndsWithin 30 (Some i.name) swapped_images) (sym q) moved_ends
    | inr k ↦ ends_alike s.images swapped_images (IsThere rest) same_parent rest_up 30 (Some x.name) (x, k, refl) (w.chains x (was x k))
  ]

  visible_case : (r : DiskRecord) (i : ImageRow) → In i s.images → i.hidden ≡ false → image_uuid i.name ≡ r.uuid → (b : Bool) → is_image l i ≡ b → (j : ImageRow) × In j swapped_images × (j.hidden ≡ false) × (image_uuid j.name ≡ r.uuid)
  visible_case r i h hid e true q = (moved, moved_there, refl, sym (ap image_uuid (same_image-sound i.name l q)) ∙ e)
  visible_case r i h hid e false q = (
    i,
    rest_there i (stays i h
        (λ n. let t : is_image l i ≡ true = ap (λ (m : Name). same_image m l) (n ∙ sym link.is_named) ∙ (ap (same_image leaf.name) (sym link.is_named) ∙ is_itself folding w leaf link.there) in cc)
        (λ n. let same : i ≡ base = Distinct-key (λ (x : ImageRow). image_uuid x.name) s.images i base w.one_image h over.there (ap image_uuid (n ∙ sym over.is_named)) in
        let f : false ≡ true = sym hid ∙ (ap (λ (x : ImageRow). x.hidden) same ∙ over.is_hidden) in cc)),
    hid,
    e,
  )

  room_good : s.others + image_extents swapped_images ≤ s.extents
  room_good =
      let a : image_extents swapped_images ≡ base.extents + image_extents rest = extents-with_image moved rest in
      let there : In base (without_image l s.images) = In-without_kept l s.images base over.there base_not_leaf in
      let b : image_extents rest + base.extents ≤ image_extents (without_image l s.images) = extents-filter_out (λ (i : ImageRow). not (is_image p i)) (without_image l s.images) base there
      (ap not (subst (λ (n : Name). is_image n base ≡ true) over.is_named (is_itself folding w base over.there))) in
      let c : image_extents (without_image l s.images) ≤ image_extents s.images = extents-filter (λ (i : ImageRow). not (is_image l i)) s.images in
      let r : s.others + image_extents s.images ≤ s.extents = w.room in
      omega arith

  few_good : length swapped_images ≤ 500
  unfolding with_image
  few_good =
      let a : length swapped_images ≡ suc (length rest) = length-insert_by _ moved rest in
      let there : In base (without_image l s.images) = In-without_kept l s.images base over.there base_not_leaf in
      let b : length rest < length (without_image l s.images) = filter_less (λ (i : ImageRow). not (is_image p i)) (without_image l s.images) base there
      (ap not (subst (λ (n : Name). is_image n base ≡ true) over.is_named (is_itself folding w base over.there))) in
      let c : length (without_image l s.images) < length s.images = filter_less (λ (i : ImageRow). not (is_image l i)) s.images leaf link.there
      (ap not (subst (λ (n : Name). is_image n leaf ≡ true) link.is_named (is_itself folding w leaf link.there))) in
      let r : length s.images ≤ 500 = w.few in
      omega arith

  moved_thick : (a : Attachment) (x : ImageRow) → In a s.attached → a.mode ≡ Rw → x ≡ moved → image_uuid x.name ≡ a.disk → thick_in s x.size ≤ x.extents
  moved_thick a x h m q e = subst (λ (z : ImageRow). thick_in s z.size ≤ z.extents) (sym q) (roomy a h m (sym (ap (λ (i : ImageRow). image_uuid i.name) q) ∙ e) base over.there over.is_named)

  images_good : (x : ImageRow) → In x swapped_images → IsImageRow s x
  unfolding table_length
  images_good x h = elim (in_swapped x h) [
    | inl q ↦ subst (IsImageRow s) (sym q) moved_image
    | inr k ↦ (let g : IsImageRow folding x = w.images x (was x k) in record { named = g.named; whole = g.whole; volume = g.volume; table = g.table; raw = g.raw })
  ]

  pub swap_good : IsWellFormed (record s { images = swapped_images; op = op.Idle })
  unfolding table_length
  swap_good = record {
    geometry = w.geometry;
    blocks = w.blocks;
    sequence = w.sequence;
    room = room_good;
    few = few_good;
    images_in_order = images_sorted moved rest (Sorted-filter (λ (i : ImageRow). i.name) _ _ (without_image l s.images) (Sorted-filter (λ (i : ImageRow). i.name) _ _ s.images w.images_in_order));
    one_image = distinct_swapped;
    images = λ x h. (let g : IsImageRow s x = images_good x h in record { named = g.named; whole = g.whole; volume = g.volume; table = g.table; raw = g.raw });
    parents = parents_good;
    chains = chains_good;
    bases = λ x n h m e. elim (in_swapped x h) [
      | inl q ↦ w.bases leaf n link.there m (ap image_uuid link.is_named ∙ (sym (ap (λ (i : ImageRow). image_uuid i.name) q) ∙ e))
      | inr k ↦ w.bases x n (was x k) m e
    ];
    records_in_order = w.records_in_order;
    one_record = w.one_record;
    disks = λ r h. (let f : HasImage folding r.uuid = w.disks r h in visible_case r f.0 f.1 f.2 f.3 (is_image l f.0) refl);
    visible = λ x h e. elim (in_swapped x h) [
      | inl q ↦ (let k : HasRecord folding (image_uuid leaf.name) = w.visible leaf link.there link.is_shown in (k.0, k.1, k.2 ∙ (ap image_uuid link.is_named ∙ sym (ap (λ (i : ImageRow). image_uuid i.name) q))))
      | inr k ↦ w.visible x (was x k) e
    ];
    attachments = record {
      once = w.attachments.once;
      disks = w.attachments.disks;
      writable = w.attachments.writable;
      thick = λ a x h m k hid u v. elim (in_swapped x k) [ inl q ↦ moved_thick a x h m q u | inr g ↦ w.attachments.thick a x h m (was x g) hid u v ];
    };
    operation = tt;
  }

-- ---- a leaf that is not attached

leaf_roomy : (s : Shape) (l p : Name) (cursor : ℕ) → IsWellFormed (record s { op = op.Leaf l p cursor }) → (a : Attachment) → In a s.attached → a.mode ≡ Rw → image_uuid l ≡ a.disk → (q : ImageRow) → In q s.images → q.name ≡ p → thick_in s q.size ≤ q.extents
leaf_roomy s l p cursor w a h m e q k n = absurd (mode_none (image_uuid l) s.attached w.operation.2 a h (sym e))

pub swap_keeps : (s : Shape) (l p : Name) (cursor : ℕ) → (w : IsWellFormed (record s { op = op.Leaf l p cursor })) → IsWellFormed (swapped (op.Leaf l p cursor) (record s { op = op.Leaf l p cursor }))
unfolding swapped
swap_keeps s l p cursor w =
    let o : Op = op.Leaf l p cursor in
    subst (λ (x : Option ImageRow). IsWellFormed (record s { images = with_found x (as_leaf l) (without_image p (without_image l s.images)); op = op.Idle }))
    (sym (found_base s o l p w w.operation.0 w.operation.1 (leaf_roomy s l p cursor w))) (swap_good s o l p w w.operation.0 w.operation.1 (leaf_roomy s l p cursor w))

-- ---- a leaf that is attached: its dirty blocks are copied first

-- a change by name, and then another
twice : (p : Name) (f g : ImageRow → ImageRow) → ((y : ImageRow) → (f y).name ≡ y.name) → (xs : List ImageRow) → on_image p g (on_image p f xs) ≡ on_image p (λ y. g (f y)) xs
twice p f g named [] = refl
twice p f g named (x ∷ xs) = ap₂ (λ (y : ImageRow) (ys : List ImageRow). y ∷ ys) (by (is_image p x) refl) (twice p f g named xs)
  where
    by : (c : Bool) → is_image p x ≡ c → when (is_image p (when c f x)) g (when c f x) ≡ when c (λ y. g (f y)) x
    by true e = ap (λ b. when b g (f x)) (ap (λ (n : Name). same_image n p) (named x) ∙ e)
    by false e = ap (λ b. when b g x) e

-- one that does nothing
nothing : (p : Name) (xs : List ImageRow) → on_image p (λ y. y) xs ≡ xs
nothing p [] = refl
nothing p (x ∷ xs) = ap₂ (λ (y : ImageRow) (ys : List ImageRow). y ∷ ys) (by (is_image p x)) (nothing p xs)
  where
    by : (c : Bool) → when c (λ (y : ImageRow). y) x ≡ x
    by true = refl
    by false = refl

pub blocks_name : (bs : List ℕ) (y : ImageRow) → (given_blocks bs y).name ≡ y.name
unfolding given_blocks
blocks_name [] y = refl
blocks_name (b ∷ bs) y = blocks_name bs (given_block b y) ∙ given_block_name b y

pub blocks_size : (bs : List ℕ) (y : ImageRow) → (given_blocks bs y).size ≡ y.size
unfolding given_blocks
blocks_size [] y = refl
blocks_size (b ∷ bs) y = blocks_size bs (given_block b y) ∙ by (is_vhd y.name)
  where
    by : (c : Bool) → (elim c as (λ _. ImageRow) [ true ↦ record y { slots = with_block b y.slots } | false ↦ y ]).size ≡ y.size
    by true = refl
    by false = refl

-- its images, once the parent has these blocks
abbrev pub with_given : Shape → Name → List ℕ → Op → Shape
with_given s p bs o = record s { images = on_image p (given_blocks bs) s.images; op = o }

given_slot : (p : Name) (b c : ℕ) (y : ImageRow) → is_there (slot_at y.slots c) ≡ true → is_there (slot_at (when (is_image p y) (given_block b) y).slots c) ≡ true
given_slot p b c y e = there_when c (is_image p y) (given_block b) y (λ z f. there_given b c z f) e

pub given_keeps : (bs : List ℕ) (s : Shape) (l p : Name) (cursor : ℕ) (dirty : List ℕ) → IsWellFormed (record s { op = op.Live l p cursor dirty }) → IsWellFormed (with_given s p bs (op.Live l p cursor dirty))
unfolding given_blocks
given_keeps [] s l p cursor dirty w = subst (λ (xs : List ImageRow). IsWellFormed (record s { images = xs; op = op.Live l p cursor dirty })) (sym (nothing p s.images)) w
given_keeps (b ∷ bs) s l p cursor dirty w =
    let o : Op = op.Live l p cursor dirty in
    let t : Shape = record s { op = o } in
    let h : IsLive t l p cursor dirty = w.operation in
    let one : IsWellFormed (record s { images = on_image p (given_block b) s.images; op = o }) = copy_keeps t w p b o
    (live_mapped t w (on_copy t w p b) (copy_names t w p b) (copy_marks t w p b) (copy_links t w p b) s.attached o l p cursor dirty dirty h refl
    (λ y k. copy_sizes t w p b y) (λ q k n. subst (λ (m : ℕ). q.extents ≤ m) (sym (copy_extents t w p b q)) (omega arith))
    (subst (λ (m : ℕ). cursor ≤ m) (sym (block_table t w p b h.only.link.child)) h.within)
    (λ c i. (let f = h.blocks c i in (f.0, given_slot p b c h.only.link.child f.1)))) in
    subst (λ (xs : List ImageRow). IsWellFormed (record s { images = xs; op = o })) (twice p (given_block b) (given_blocks bs) (given_block_name b) s.images)
    (given_keeps bs (record s { images = on_image p (given_block b) s.images }) l p cursor dirty one)

-- without that image all is as it was
without_given : (p : Name) (f : ImageRow → ImageRow) → ((y : ImageRow) → (f y).name ≡ y.name) → (xs : List ImageRow) → without_image p (on_image p f xs) ≡ without_image p xs
without_given p f named [] = refl
without_given p f named (x ∷ xs) = by (is_image p x) refl (without_given p f named xs)
  where
    by : (c : Bool) → is_image p x ≡ c → without_image p (on_image p f xs) ≡ without_image p xs
        → cond (not (is_image p (when c f x))) (when c f x ∷ without_image p (on_image p f xs)) (without_image p (on_image p f xs)) ≡ cond (not (is_image p x)) (x ∷ without_image p xs) (without_image p xs)
    by true e rest = ap (λ b. cond (not b) (f x ∷ without_image p (on_image p f xs)) (without_image p (on_image p f xs))) (ap (λ (n : Name). same_image n p) (named x) ∙ e) ∙ rest
        ∙ sym (ap (λ b. cond (not b) (x ∷ without_image p xs) (without_image p xs)) e)
    by false e rest = ap (λ (ys : List ImageRow). cond (not (is_image p x)) (x ∷ ys) ys) rest

-- and it may be left out of others before
given_without : (l p : Name) (f : ImageRow → ImageRow) → ((y : ImageRow) → (f y).name ≡ y.name) → (xs : List ImageRow) → without_image l (on_image p f xs) ≡ on_image p f (without_image l xs)
given_without l p f named [] = refl
given_without l p f named (x ∷ xs) = by (is_image l x) refl (given_without l p f named xs)
  where
    keeps : (c : Bool) → (when c f x).name ≡ x.name
    keeps true = named x
    keeps false = refl

    by : (c : Bool) → is_image l x ≡ c → without_image l (on_image p f xs) ≡ on_image p f (without_image l xs)
        → cond (not (is_image l (when (is_image p x) f x))) (when (is_image p x) f x ∷ without_image l (on_image p f xs)) (without_image l (on_image p f xs)) ≡ on_image p f (cond (not c) (x ∷ without_image l xs) (without_image l xs))
    by true e rest = ap (λ b. cond (not b) (when (is_image p x) f x ∷ without_image l (on_image p f xs)) (without_image l (on_image p f xs))) (ap (λ (n : Name). same_image n l) (keeps (is_image p x)) ∙ e) ∙ rest
    by false e rest = ap (λ b. cond (not b) (when (is_image p x) f x ∷ without_image l (on_image p f xs)) (without_image l (on_image p f xs))) (ap (λ (n : Name). same_image n l) (keeps (is_image p x)) ∙ e)
        ∙ ap (λ (ys : List ImageRow). when (is_image p x) f x ∷ ys) rest

live_roomy : (s : Shape) (l p : Name) (cursor : ℕ) (dirty : List ℕ) → IsWellFormed (record s { op = op.Live l p cursor dirty }) → (a : Attachment) → In a s.attached → a.mode ≡ Rw → image_uuid l ≡ a.disk → (q : ImageRow) → In q s.images → q.name ≡ p → thick_in s q.size ≤ q.extents
live_roomy s l p cursor dirty w a h m e q k n =
    w.operation.thick (ap is_rw (attached_mode (record s { op = op.Live l p cursor dirty }) w a (image_uuid l) h (sym e) ∙ ap Some m)) q k n

pub swap_live : (s : Shape) (l p : Name) (cursor : ℕ) (dirty : List ℕ) → (w : IsWellFormed (record s { op = op.Live l p cursor dirty })) → IsWellFormed (swapped (op.Live l p cursor dirty) (record s { op = op.Live l p cursor dirty }))
unfolding swapped
swap_live s l p cursor dirty w =
    let o : Op = op.Live l p cursor dirty in
    let t : Shape = record s { images = on_image p (given_blocks dirty) s.images } in
    let v : IsWellFormed (record t { op = o }) = given_keeps dirty s l p cursor dirty w in
    let was : find_image p s.images ≡ Some (base s o l p w w.operation.only w.operation.parent_vhd (live_roomy s l p cursor dirty w)) = found_base s o l p w w.operation.only w.operation.parent_vhd (live_roomy s l p cursor dirty w) in
    let now : find_image p t.images ≡ Some (base t o l p v v.operation.only v.operation.parent_vhd (live_roomy t l p cursor dirty v)) = found_base t o l p v v.operation.only v.operation.parent_vhd (live_roomy t l p cursor dirty v) in
    let moved_is : find_image p t.images ≡ option_map (λ (y : ImageRow). when (is_image p y) (given_blocks dirty) y) (find_image p s.images) =
    find-map (is_image p) (λ (y : ImageRow). when (is_image p y) (given_blocks dirty) y) (λ y. ap (λ (n : Name). same_image n p) (when-key (λ (z : ImageRow). z.name) (given_blocks dirty) (blocks_name dirty) (is_image p y) y)) s.images in
    let rest_is : without_image p (without_image l t.images) ≡ without_image p (without_image l s.images) =
    ap (without_image p) (given_without l p (given_blocks dirty) (blocks_name dirty) s.images) ∙ without_given p (given_blocks dirty) (blocks_name dirty) (without_image l s.images) in
    let good : IsWellFormed (record t { images = with_found (find_image p t.images) (as_leaf l) (without_image p (without_image l t.images)); op = op.Idle }) =
    subst (λ (x : Option ImageRow). IsWellFormed (record t { images = with_found x (as_leaf l) (without_image p (without_image l t.images)); op = op.Idle })) (sym now) (swap_good t o l p v v.operation.only v.operation.parent_vhd (live_roomy t l p cursor dirty v)) in
    subst (λ (xs : List ImageRow). IsWellFormed (record s { images = xs; op = op.Idle })) (same_images s l p dirty t.images moved_is rest_is (find-found p s.images)) good
  where
    find-found : (p : Name) (xs : List ImageRow) (y : ImageRow) → find_image p xs ≡ Some y → is_image p y ≡ true
    find-found p xs y e = (find-some (is_image p) xs y e).1

    same_images : (s : Shape) (l p : Name) (dirty : List ℕ) (ys : List ImageRow) → find_image p ys ≡ option_map (λ (y : ImageRow). when (is_image p y) (given_blocks dirty) y) (find_image p s.images)
        → without_image p (without_image l ys) ≡ without_image p (without_image l s.images) → ((y : ImageRow) → find_image p s.images ≡ Some y → is_image p y ≡ true)
        → with_found (find_image p ys) (as_leaf l) (without_image p (without_image l ys)) ≡ with_found (find_image p s.images) (λ q. as_leaf l (given_blocks dirty q)) (without_image p (without_image l s.images))
    same_images s l p dirty ys found rest own =
        ap₂ (λ (x : Option ImageRow) (zs : List ImageRow). with_found x (as_leaf l) zs) found rest ∙ by (find_image p s.images) refl
      where
        by : (x : Option ImageRow) → find_image p s.images ≡ x → with_found (option_map (λ (y : ImageRow). when (is_image p y) (given_blocks dirty) y) x) (as_leaf l) (without_image p (without_image l s.images))
            ≡ with_found x (λ q. as_leaf l (given_blocks dirty q)) (without_image p (without_image l s.images))
        by None e = refl
        by (Some y) e = ap (λ b. with_image (as_leaf l (when b (given_blocks dirty) y)) (without_image p (without_image l s.images))) (own y e)

-- users see the same images
module _ (s : Shape) (o : Op) (l p : Name) (w : IsWellFormed (record s { op = o })) (only : IsOnlyChild (record s { op = o }) false l p) (parent_vhd : is_vhd p ≡ true)
    (roomy : (a : Attachment) → In a s.attached → a.mode ≡ Rw → image_uuid l ≡ a.disk → (q : ImageRow) → In q s.images → q.name ≡ p → thick_in s q.size ≤ q.extents) where
  pub seen_swapped : AreSeen s.images (swapped_images s o l p w only parent_vhd roomy)
  seen_swapped i h e = elim (in_swapped s o l p w only parent_vhd roomy i h) [
    | inl q ↦ (
      leaf s o l p w only parent_vhd roomy,
      (link s o l p w only parent_vhd roomy).there,
      (link s o l p w only parent_vhd roomy).is_shown,
      ap image_uuid (link s o l p w only parent_vhd roomy).is_named ∙ sym (ap (λ (x : ImageRow). image_uuid x.name) q),
      sym (only.same_size (base s o l p w only parent_vhd roomy) (over s o l p w only parent_vhd roomy).there (over s o l p w only parent_vhd roomy).is_named) ∙ sym (ap (λ (x : ImageRow). x.size) q),
    )
    | inr k ↦ (i, was s o l p w only parent_vhd roomy i k, e, refl, refl)
  ]

  -- the same, where the parent has blocks
  pub seen_given : (bs : List ℕ) → AreSeen s.images (with_image (as_leaf l (given_blocks bs (base s o l p w only parent_vhd roomy))) (rest s o l p w only parent_vhd roomy))
  unfolding with_image
  seen_given bs i h e = elim (In-insert _ (as_leaf l (given_blocks bs (base s o l p w only parent_vhd roomy))) (rest s o l p w only parent_vhd roomy) i h) [
    | inl q ↦ (
      leaf s o l p w only parent_vhd roomy,
      (link s o l p w only parent_vhd roomy).there,
      (link s o l p w only parent_vhd roomy).is_shown,
      ap image_uuid (link s o l p w only parent_vhd roomy).is_named ∙ sym (ap (λ (x : ImageRow). image_uuid x.name) q),
      sym (only.same_size (base s o l p w only parent_vhd roomy) (over s o l p w only parent_vhd roomy).there (over s o l p w only parent_vhd roomy).is_named) ∙ sym (ap (λ (x : ImageRow). x.size) q ∙ blocks_size bs (base s o l p w only parent_vhd roomy)),
    )
    | inr k ↦ (i, was s o l p w only parent_vhd roomy i k, e, refl, refl)
  ]

pub swap_seen : (s : Shape) (l p : Name) (cursor : ℕ) → (w : IsWellFormed (record s { op = op.Leaf l p cursor })) → AreSeen s.images ((swapped (op.Leaf l p cursor) (record s { op = op.Leaf l p cursor })).images)
unfolding swapped
swap_seen s l p cursor w =
    let o : Op = op.Leaf l p cursor in
    subst (λ (x : Option ImageRow). AreSeen s.images (with_found x (as_leaf l) (without_image p (without_image l s.images))))
    (sym (found_base s o l p w w.operation.0 w.operation.1 (leaf_roomy s l p cursor w))) (seen_swapped s o l p w w.operation.0 w.operation.1 (leaf_roomy s l p cursor w))

pub swap_records : (s : Shape) (l p : Name) (cursor : ℕ) → (swapped (op.Leaf l p cursor) (record s { op = op.Leaf l p cursor })).records ≡ s.records
unfolding swapped
swap_records s l p cursor = refl

pub live_seen : (s : Shape) (l p : Name) (cursor : ℕ) (dirty : List ℕ) → (w : IsWellFormed (record s { op = op.Live l p cursor dirty })) → AreSeen s.images ((swapped (op.Live l p cursor dirty) (record s { op = op.Live l p cursor dirty })).images)
unfolding swapped
live_seen s l p cursor dirty w =
    let o : Op = op.Live l p cursor dirty in
    let r = live_roomy s l p cursor dirty w in
    subst (λ (x : Option ImageRow). AreSeen s.images (with_found x (λ q. as_leaf l (given_blocks dirty q)) (without_image p (without_image l s.images))))
    (sym (found_base s o l p w w.operation.only w.operation.parent_vhd r)) (seen_given s o l p w w.operation.only w.operation.parent_vhd r dirty)

pub live_records : (s : Shape) (l p : Name) (cursor : ℕ) (dirty : List ℕ) → (swapped (op.Live l p cursor dirty) (record s { op = op.Live l p cursor dirty })).records ≡ s.records
unfolding swapped
live_records s l p cursor dirty = refl
