-- How many attached disks read through each image behind a swap: as many as before, but that none reads through the parent's name any more,
-- through which as many read before as through the leaf, and none where the leaf is not attached.
use Rattle.std.proofs.Common.{◌≡◌, ◌≢◌, inl, inr, ⊎_elim, ℕ, zero, suc, ◌&&◌, ◌||◌, ◌⊎◌, not, Bool, true, false, cond, List, [], ◌∷◌, length, map, Option, Some, None, refl, sym, ap, ◌∙◌, subst, bytes_eq}
use Rattle.std.proofs.lemmas.Bool.{and_parts, true≢false}
use Rattle.std.specs.List.{filter, find, list_any}
use Rattle.common_laws.specs.Lists.{Distinct, In}
use Rattle.common_laws.proofs.Bytes.{bytes_eq-refl, bytes_eq-same}
use Rattle.common_laws.proofs.Lists.{Distinct-key, In-insert_new, In-insert_old, find-some, none_find}
use Rattle.sm_base.specs.declared.names.Name.{Name}
use Rattle.sm_machine.specs.Collector.{as_leaf}
use Rattle.sm_machine.specs.Shapes.{Attachment, ImageRow, Shape, attached_as, chain, chain_limit, disk_image, image_uuid, is_image, is_image_of, parent_of, reads_through, refs, same_image, with_image, without_image}
use Rattle.sm_machine.specs.WellFormed.{EndsWithin, IsOnlyChild, IsWellFormed, is_image_name}
use Rattle.sm_machine.proofs.Chains.{IsThere, parent_of-in}
use Rattle.sm_machine.proofs.Guests.{mode_none}
use Rattle.sm_machine.proofs.ImageNames.{other_image, same_image-refl, same_image-sound}
use Rattle.sm_machine.proofs.Swaps.{In-without, In-without_kept}

-- ---- chains that are alike

filter_alike : {A : Type 0} (f g : A → Bool) (xs : List A) → ((x : A) → In x xs → f x ≡ g x) → filter f xs ≡ filter g xs
filter_alike f g [] same = refl
filter_alike f g (x ∷ xs) same = ap (λ b. cond b (x ∷ filter f xs) (filter f xs)) (same x (inl refl)) ∙ ap (λ ys. cond (g x) (x ∷ ys) ys) (filter_alike f g xs (λ y h. same y (inr h)))

-- the image of a disk is found
image_found : (d : List ℕ) (xs : List ImageRow) (i : ImageRow) → Distinct (map (λ i. image_uuid i.name) xs) → In i xs → is_image_of d i ≡ true → find (is_image_of d) xs ≡ Some i
image_found d xs i differ there is = by (find (is_image_of d) xs) refl
  where
    uuid : (x : ImageRow) → is_image_of d x ≡ true → image_uuid x.name ≡ d
    uuid x e = bytes_eq-same (image_uuid x.name) d (and_parts (not x.hidden) (bytes_eq (image_uuid x.name) d) e).1

    by : (o : Option ImageRow) → find (is_image_of d) xs ≡ o → o ≡ Some i
    by None at = absurd (true≢false (sym is ∙ none_find (is_image_of d) xs at i there))
    by (Some x) at =
        let w = find-some (is_image_of d) xs x at in
        ap Some (Distinct-key (λ (y : ImageRow). image_uuid y.name) xs x i differ w.0 there (uuid x w.1 ∙ sym (uuid i is)))

-- ---- chains that end

abbrev further_up : ℕ → List ImageRow → Option Name → List Name
further_up most images o = elim o as (λ o. List Name) [ None ↦ [] | Some p ↦ chain most p images ]

-- a chain that ends within a limit does not depend on it
further_more : (images : List ImageRow) (k : ℕ) (o : Option Name) → EndsWithin k o images → further_up (suc k) images o ≡ further_up k images o
unfolding chain
further_more images k None ends = refl
further_more images zero (Some n) ends = absurd ends
further_more images (suc k) (Some n) ends = ap (λ (ns : List Name). n ∷ ns) (further_more images k (parent_of n images) ends)

-- ---- a leaf that takes its parent's place

module _ (s : Shape) (l p : Name) (w : IsWellFormed s) (only : IsOnlyChild s false l p) (vhd : is_image_name p ≡ true) (base : ImageRow) (base_in : In base s.images)
    (base_named : base.name ≡ p) (base_hidden : base.hidden ≡ true) (differ : Distinct (map (λ i. image_uuid i.name) (with_image (as_leaf l base) (without_image p (without_image l s.images))))) where
  abbrev rest : List ImageRow
  rest = without_image p (without_image l s.images)

  abbrev now : List ImageRow
  now = with_image (as_leaf l base) rest

  abbrev leaf : ImageRow
  leaf = only.link.child

  was : (x : ImageRow) → In x rest → In x s.images
  was x i = (In-without l s.images x (In-without p (without_image l s.images) x i).0).0

  now_in : (x : ImageRow) → In x rest → In x now
  unfolding with_image
  now_in x i = In-insert_old _ (as_leaf l base) rest x i

  not_named : (x : ImageRow) (n : Name) → In x s.images → same_image x.name n ≡ false → x.name ≢ n
  not_named x n i e is = true≢false (sym (same_image-refl x.name (w.images x i).named) ∙ ap (same_image x.name) is ∙ e)

  not_leaf : (x : ImageRow) → In x rest → x.name ≢ l
  not_leaf x i = not_named x l (was x i) (In-without l s.images x (In-without p (without_image l s.images) x i).0).1

  stays : (x : ImageRow) → In x s.images → x.name ≢ l → x.name ≢ p → In x rest
  stays x i a b = In-without_kept p (without_image l s.images) x (In-without_kept l s.images x i a) b

  same_uuid : (x y : ImageRow) → In x s.images → In y s.images → image_uuid x.name ≡ image_uuid y.name → x ≡ y
  same_uuid x y i j e = Distinct-key (λ (z : ImageRow). image_uuid z.name) s.images x y w.one_image i j e

  alike : (n : Name) → IsThere rest n → parent_of n now ≡ parent_of n s.images
  alike n k =
      let named = (w.images k.0 (was k.0 k.1)).named in
      subst (λ (y : Name). parent_of y now ≡ parent_of y s.images) k.2
      (parent_of-in now k.0 differ (now_in k.0 k.1) named ∙ sym (parent_of-in s.images k.0 w.one_image (was k.0 k.1) named))

  up : (n q : Name) → IsThere rest n → parent_of n s.images ≡ Some q → IsThere rest q
  up n q k is =
      let named = (w.images k.0 (was k.0 k.1)).named in
      let above : k.0.parent ≡ Some q = sym (subst (λ (y : Name). parent_of y s.images ≡ k.0.parent) k.2 (parent_of-in s.images k.0 w.one_image (was k.0 k.1) named)) ∙ is in
      let g = w.parents k.0 q (was k.0 k.1) above in (
        g.parent,
        stays g.parent g.there
            (λ e. true≢false (sym g.is_hidden ∙ ap (λ (i : ImageRow). i.hidden) (same_uuid g.parent leaf g.there only.link.there (ap image_uuid (e ∙ sym only.link.is_named))) ∙ only.link.is_shown))
            (λ e. not_leaf k.0 k.1 (only.only k.0 (was k.0 k.1) (above ∙ ap Some (sym g.is_named ∙ e)))),
        g.is_named,
      )

  shown_is : (x : ImageRow) (d : List ℕ) → x.hidden ≡ false → image_uuid x.name ≡ d → is_image_of d x ≡ true
  shown_is x d shown uuid = ap (λ b. not b && bytes_eq (image_uuid x.name) d) shown ∙ ap (λ y. bytes_eq y d) uuid ∙ bytes_eq-refl d

  not_base : (x : ImageRow) → In x rest → x.name ≢ p
  not_base x i = not_named x p (was x i) (In-without p (without_image l s.images) x i).1

  moved_in : In (as_leaf l base) now
  unfolding with_image
  moved_in = In-insert_new _ (as_leaf l base) rest

  leaf_not_base : l ≢ p
  leaf_not_base e = true≢false (sym base_hidden ∙ ap (λ (i : ImageRow). i.hidden) (same_uuid base leaf base_in only.link.there (ap image_uuid (base_named ∙ sym e ∙ sym only.link.is_named))) ∙ only.link.is_shown)

  -- a name of an image that stays
  there : ImageRow → Type 0
  there x = In x rest

  -- the chains of the images that stay are alike
  chain_alike : (most : ℕ) (n : Name) → IsThere rest n → chain most n now ≡ chain most n s.images
  unfolding chain
  chain_alike zero n k = refl
  chain_alike (suc most) n k = ap (λ o. n ∷ further_up most now o) (alike n k) ∙ ap (λ ns. n ∷ ns) (by (λ q kq. chain_alike most q kq) (parent_of n s.images) refl)
    where
      by : ((q : Name) → IsThere rest q → chain most q now ≡ chain most q s.images) → (o : Option Name) → parent_of n s.images ≡ o → further_up most now o ≡ further_up most s.images o
      by known None is = refl
      by known (Some q) is = known q (up n q k is)

  -- and have neither name
  none_of : (x : Name) → ((y : ImageRow) → In y rest → y.name ≢ x) → (most : ℕ) (n : Name) → IsThere rest n → list_any (same_image x) (chain most n s.images) ≡ false
  unfolding chain
  none_of x away zero n k = refl
  none_of x away (suc most) n k =
      ap (λ b. b || list_any (same_image x) (further_up most s.images (parent_of n s.images))) (other_image x n (λ e. away k.0 k.1 (k.2 ∙ sym e)))
      ∙ by (λ q kq. none_of x away most q kq) (parent_of n s.images) refl
    where
      by : ((q : Name) → IsThere rest q → list_any (same_image x) (chain most q s.images) ≡ false) → (o : Option Name) → parent_of n s.images ≡ o → list_any (same_image x) (further_up most s.images o) ≡ false
      by known None is = refl
      by known (Some q) is = known q (up n q k is)

  -- what is above the parent stays
  above : (q : Name) → base.parent ≡ Some q → IsThere rest q
  above q e =
      let g = w.parents base q base_in e in (
        g.parent,
        stays g.parent g.there
            (λ f. true≢false (sym g.is_hidden ∙ ap (λ (i : ImageRow). i.hidden) (same_uuid g.parent leaf g.there only.link.there (ap image_uuid (f ∙ sym only.link.is_named))) ∙ only.link.is_shown))
            (λ f. leaf_not_base (sym (only.only base base_in (e ∙ ap Some (sym g.is_named ∙ f))) ∙ base_named)),
        g.is_named,
      )

  parent_is : parent_of p s.images ≡ base.parent
  parent_is = subst (λ (n : Name). parent_of n s.images ≡ base.parent) base_named (parent_of-in s.images base w.one_image base_in (w.images base base_in).named)

  leaf_parent : parent_of l s.images ≡ Some p
  leaf_parent = subst (λ (n : Name). parent_of n s.images ≡ Some p) only.link.is_named (parent_of-in s.images leaf w.one_image only.link.there (w.images leaf only.link.there).named ∙ only.link.linked)

  now_parent : parent_of l now ≡ base.parent
  now_parent = parent_of-in now (as_leaf l base) differ moved_in (subst (λ (n : Name). is_image_name n ≡ true) only.link.is_named (w.images leaf only.link.there).named)

  ends : EndsWithin 28 base.parent s.images
  ends = subst (λ (o : Option Name). EndsWithin 28 o s.images) parent_is
      (subst (λ (o : Option Name). EndsWithin 29 o s.images) leaf_parent (subst (λ (n : Name). EndsWithin 30 (Some n) s.images) only.link.is_named (w.chains leaf only.link.there)))

  -- the leaf's chain before, and behind it
  abbrev ups : List Name
  ups = further_up 28 s.images base.parent

  chain_was : chain chain_limit l s.images ≡ l ∷ p ∷ ups
  unfolding chain
  chain_was = ap (λ (o : Option Name). l ∷ further_up 29 s.images o) leaf_parent ∙ ap (λ (o : Option Name). l ∷ p ∷ further_up 28 s.images o) parent_is

  chain_is : chain chain_limit l now ≡ l ∷ ups
  unfolding chain
  chain_is = ap (λ (o : Option Name). l ∷ further_up 29 now o) now_parent ∙ ap (λ (ns : List Name). l ∷ ns) (by base.parent refl ∙ further_more s.images 28 base.parent ends)
    where
      by : (o : Option Name) → base.parent ≡ o → further_up 29 now o ≡ further_up 29 s.images o
      by None e = refl
      by (Some q) e = chain_alike 29 q (above q e)

  none_up : (x : Name) → ((y : ImageRow) → In y rest → y.name ≢ x) → list_any (same_image x) ups ≡ false
  none_up x away = by base.parent refl
    where
      by : (o : Option Name) → base.parent ≡ o → list_any (same_image x) (further_up 28 s.images o) ≡ false
      by None e = refl
      by (Some q) e = none_of x away 28 q (above q e)

  -- ---- the disk of an attachment

  abbrev through : Name → List ImageRow → Option ImageRow → Bool
  through n images o = elim o [ None ↦ false | Some i ↦ list_any (same_image n) (chain chain_limit i.name images) ]

  record IsRead (d : List ℕ) : Type 0 where
    image : ImageRow
    there_at : In image s.images
    is : is_image_of d image ≡ true
    which : In image rest ⊎ (image ≡ leaf)

  read : (a : Attachment) → In a s.attached → IsRead a.disk
  read a i =
      let r = w.attachments.disks a i in
      let v = w.disks r.0 r.1 in
      let uuid : image_uuid v.0.name ≡ a.disk = v.3 ∙ r.2 in
      record { image = v.0; there_at = v.1; is = shown_is v.0 a.disk v.2 uuid; which = by v.0 v.1 v.2 (is_image l v.0) refl }
    where
      by : (x : ImageRow) → In x s.images → x.hidden ≡ false → (c : Bool) → is_image l x ≡ c → In x rest ⊎ (x ≡ leaf)
      by x j shown true e = inr (same_uuid x leaf j only.link.there (ap image_uuid (same_image-sound x.name l e ∙ sym only.link.is_named)))
      by x j shown false e = inl (stays x j (λ f. true≢false (sym (same_image-refl x.name (w.images x j).named ∙ sym refl) ∙ ap (same_image x.name) f ∙ e))
          (λ f. true≢false (sym base_hidden ∙ ap (λ (y : ImageRow). y.hidden) (sym (same_uuid x base j base_in (ap image_uuid (f ∙ sym base_named)))) ∙ shown)))

  before : (a : Attachment) (i : In a s.attached) → disk_image a.disk s ≡ Some (read a i).image
  before a i = image_found a.disk s.images (read a i).image w.one_image (read a i).there_at (read a i).is

  -- what is read through each image, by the disk
  record AreUses (d : List ℕ) : Type 0 where
    same : (n : Name) → n ≢ p → reads_through n (record s { images = now }) d ≡ reads_through n s d
    gone : reads_through p (record s { images = now }) d ≡ false
    alike : reads_through p s d ≡ reads_through l s d

  of_rest : (d : List ℕ) (x : ImageRow) → In x rest → is_image_of d x ≡ true → disk_image d s ≡ Some x → AreUses d
  of_rest d x i is found =
      let there : IsThere rest x.name = (x, i, refl) in
      let after : find (is_image_of d) now ≡ Some x = image_found d now x differ (now_in x i) is in
      record {
        same = λ n other. ap (through n now) after ∙ ap (list_any (same_image n)) (chain_alike chain_limit x.name there) ∙ sym (ap (through n s.images) found);
        gone = ap (through p now) after ∙ ap (list_any (same_image p)) (chain_alike chain_limit x.name there) ∙ none_of p not_base chain_limit x.name there;
        alike = ap (through p s.images) found ∙ none_of p not_base chain_limit x.name there ∙ sym (ap (through l s.images) found ∙ none_of l not_leaf chain_limit x.name there);
      }

  of_leaf : (d : List ℕ) → is_image_of d leaf ≡ true → disk_image d s ≡ Some leaf → AreUses d
  of_leaf d is found =
      let uuid : image_uuid leaf.name ≡ d = bytes_eq-same (image_uuid leaf.name) d (and_parts (not leaf.hidden) (bytes_eq (image_uuid leaf.name) d) is).1 in
      let after : find (is_image_of d) now ≡ Some (as_leaf l base) = image_found d now (as_leaf l base) differ moved_in (shown_is (as_leaf l base) d refl (ap image_uuid (sym only.link.is_named) ∙ uuid)) in
      let was_chain : (n : Name) → through n s.images (Some leaf) ≡ same_image n l || (same_image n p || list_any (same_image n) ups) = λ n.
      ap (λ (m : Name). list_any (same_image n) (chain chain_limit m s.images)) only.link.is_named ∙ ap (list_any (same_image n)) chain_was in
      let is_chain : (n : Name) → through n now (Some (as_leaf l base)) ≡ same_image n l || list_any (same_image n) ups = λ n. ap (list_any (same_image n)) chain_is in
      record {
        same = λ n other. ap (through n now) after ∙ is_chain n ∙ sym (ap (through n s.images) found ∙ was_chain n ∙ ap (λ b. same_image n l || (b || list_any (same_image n) ups)) (other_image n p other));
        gone = ap (through p now) after ∙ is_chain p ∙ ap (λ b. b || list_any (same_image p) ups) (other_image p l (λ e. leaf_not_base (sym e))) ∙ none_up p not_base;
        alike = ap (through p s.images) found ∙ was_chain p ∙ ap (λ b. same_image p l || (b || list_any (same_image p) ups)) (same_image-refl p vhd) ∙ or_true (same_image p l)
            ∙ sym (ap (through l s.images) found ∙ was_chain l ∙ ap (λ b. b || (same_image l p || list_any (same_image l) ups)) (same_image-refl l (subst (λ (n : Name). is_image_name n ≡ true) only.link.is_named (w.images leaf only.link.there).named)));
      }
    where
      or_true : (b : Bool) → (b || true) ≡ true
      or_true true = refl
      or_true false = refl

  uses : (a : Attachment) → In a s.attached → AreUses a.disk
  uses a i = ⊎_elim
      (λ k. of_rest a.disk (read a i).image k (read a i).is (before a i))
      (λ e. of_leaf a.disk (subst (λ (x : ImageRow). is_image_of a.disk x ≡ true) e (read a i).is) (before a i ∙ ap Some e)) (read a i).which

  none_left : (f : Attachment → Bool) (xs : List Attachment) → ((a : Attachment) → In a xs → f a ≡ false) → length (filter f xs) ≡ 0
  none_left f [] none = refl
  none_left f (x ∷ xs) none = ap (λ b. length (cond b (x ∷ filter f xs) (filter f xs))) (none x (inl refl)) ∙ none_left f xs (λ a i. none a (inr i))

  -- as many disks read through each image as before
  pub live_uses : (n : Name) → n ≢ p → refs n (record s { images = now }) ≡ refs n s
  unfolding refs
  live_uses n other = ap length (filter_alike (λ a. reads_through n (record s { images = now }) a.disk) (λ a. reads_through n s a.disk) s.attached (λ a i. (uses a i).same n other))

  -- but none through the parent's name
  pub live_gone : refs p (record s { images = now }) ≡ 0
  unfolding refs
  live_gone = none_left (λ a. reads_through p (record s { images = now }) a.disk) s.attached (λ a i. (uses a i).gone)

  -- through which as many read as through the leaf
  pub live_alike : refs p s ≡ refs l s
  unfolding refs
  live_alike = ap length (filter_alike (λ a. reads_through p s a.disk) (λ a. reads_through l s a.disk) s.attached (λ a i. (uses a i).alike))

  -- ---- a leaf that is not attached

  module _ (unattached : attached_as (image_uuid l) s ≡ None) where
    none_before : refs p s ≡ 0
    unfolding refs
    none_before = none_left (λ a. reads_through p s a.disk) s.attached (λ a i. ⊎_elim
        (λ k. ap (through p s.images) (before a i) ∙ none_of p not_base chain_limit (read a i).image.name ((read a i).image, k, refl))
        (λ e. absurd (mode_none (image_uuid l) s.attached unattached a i
        (sym (bytes_eq-same (image_uuid (read a i).image.name) a.disk (and_parts (not (read a i).image.hidden) (bytes_eq (image_uuid (read a i).image.name) a.disk) (read a i).is).1)
        ∙ ap (λ (x : ImageRow). image_uuid x.name) e ∙ ap image_uuid only.link.is_named))) (read a i).which)

    -- nothing reads through either
    pub swap_uses : (n : Name) → (n ≡ p) ⊎ (n ≢ p) → refs n (record s { images = now }) ≡ refs n s
    swap_uses n (inl is) = ap (λ m. refs m (record s { images = now })) is ∙ live_gone ∙ sym (ap (λ m. refs m s) is ∙ none_before)
    swap_uses n (inr other) = live_uses n other
