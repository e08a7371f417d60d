-- How many attached disks read through each image, once a child is linked past an image to that image's parent: those whose chain
-- has the child no longer read through the image, and all others read through what they read through.
use Rattle.std.proofs.Common.{◌≡◌, ◌≢◌, ◌⊎◌, inl, inr, ⊎_elim, ℕ, zero, suc, ◌+◌, Bool, true, false, not, ◌&&◌, ◌||◌, cond, List, [], ◌∷◌, length, Option, Some, None, refl, sym, ap, ap₂, ◌∙◌, subst, arith}
use Rattle.std.specs.List.{filter, find, list_any}
use Rattle.std.specs.Option.{option_map}
use Rattle.std.proofs.lemmas.Bool.{true≢false}
use Rattle.common_laws.specs.Lists.{In}
use Rattle.common_laws.proofs.Booleans.{or_cases}
use Rattle.common_laws.proofs.Lists.{find-some}
use Rattle.sm_base.specs.declared.names.Name.{Name}
use Rattle.sm_machine.specs.Shapes.{Attachment, ImageRow, Shape, chain, chain_limit, disk_image, is_image_of, parent_of, reads_through, refs, same_image}
use Rattle.sm_machine.specs.WellFormed.{EndsWithin, is_image_name}
use Rattle.sm_machine.proofs.Folds.{ends_more}
use Rattle.sm_machine.proofs.ImageNames.{other_image, same_image-refl, same_image-sound}
use Rattle.sm_ready.proofs.StopLaws.{name_or_not}

-- whether the chain from an image up, of at most so many images, has the image of a name
abbrev pub through : Name → ℕ → List ImageRow → Name → Bool
through k most images n = list_any (same_image k) (chain most n images)

abbrev pub above : Name → ℕ → List ImageRow → Option Name → Bool
above k most images None = false
above k most images (Some n) = through k most images n

pub through_step : (k : Name) (most : ℕ) (images : List ImageRow) (n : Name) → through k (suc most) images n ≡ (same_image k n || above k most images (parent_of n images))
unfolding chain
through_step k most images n = ap (λ b. same_image k n || b) (by (parent_of n images))
  where
    by : (o : Option Name) → list_any (same_image k) (elim o as (λ o. List Name) [ None ↦ [] | Some p ↦ chain most p images ]) ≡ above k most images o
    by None = refl
    by (Some p) = refl

through_none : (k : Name) (images : List ImageRow) (n : Name) → through k zero images n ≡ false
unfolding chain
through_none k images n = refl

-- where a chain ends within so many images, one more adds none
ended : (k : Name) (most : ℕ) (images : List ImageRow) (o : Option Name) → EndsWithin most o images → above k (suc most) images o ≡ above k most images o
ended k most images None e = refl
ended k zero images (Some n) e = absurd e
ended k (suc most) images (Some n) e =
    through_step k (suc most) images n ∙ ap (λ b. same_image k n || b) (ended k most images (parent_of n images) e) ∙ sym (through_step k most images n)

-- an image further up ends no later
further_ends : (k : Name) (most j : ℕ) (images : List ImageRow) (o : Option Name) → above k most images o ≡ true → EndsWithin j o images → EndsWithin j (Some k) images
further_ends k most j images None h e = absurd (true≢false (sym h))
further_ends k zero j images (Some n) h e = absurd (true≢false (sym h ∙ through_none k images n))
further_ends k (suc most) zero images (Some n) h e = absurd e
further_ends k (suc most) (suc j) images (Some n) h e = ⊎_elim
    (λ same. subst (λ y. EndsWithin (suc j) (Some y) images) (sym (same_image-sound k n same)) e)
    (λ up. ends_more j (Some k) images (further_ends k most j images (parent_of n images) up e))
    (or_cases (same_image k n) (above k most images (parent_of n images)) (sym (through_step k most images n) ∙ h))

-- no image is above itself
pub not_above_true : (j most : ℕ) (images : List ImageRow) (n : Name) → EndsWithin j (parent_of n images) images → above n most images (parent_of n images) ≡ true → ⊥
not_above_true zero most images n e h = by (parent_of n images) e h
  where
    by : (o : Option Name) → EndsWithin zero o images → above n most images o ≡ true → ⊥
    by None e h = true≢false (sym h)
    by (Some p) e h = e
not_above_true (suc j) most images n e h = not_above_true j most images n (further_ends n most (suc j) images (parent_of n images) h e) h

not_above : (j most : ℕ) (images : List ImageRow) (n : Name) → EndsWithin j (parent_of n images) images → above n most images (parent_of n images) ≡ false
not_above j most images n e = by (above n most images (parent_of n images)) refl
  where
    by : (b : Bool) → above n most images (parent_of n images) ≡ b → b ≡ false
    by false is = refl
    by true is = absurd (not_above_true j most images n e is)

false_and : (a b : Bool) → b ≡ true → (a && not b) ≡ false
false_and true true e = refl
false_and false b e = refl
false_and true false e = absurd (true≢false (sym e))

and_false : (a b : Bool) → a ≡ false → (a && b) ≡ false
and_false false b e = refl
and_false true b e = absurd (true≢false e)

-- ---- a child is linked past an image

module _ (xs ys : List ImageRow) (c v p : Name) (was : parent_of c xs ≡ Some v) (now : parent_of c ys ≡ Some p) (base : parent_of v xs ≡ Some p)
    (others : (n : Name) → n ≢ c → parent_of n ys ≡ parent_of n xs) where
  ends_up : (most : ℕ) → EndsWithin most (Some v) xs → EndsWithin most (Some p) xs
  ends_up zero e = absurd e
  ends_up (suc k) e = ends_more k (Some p) xs (subst (λ o. EndsWithin k o xs) base e)

  -- past the image the chain is the same
  skipped : (k : Name) → k ≢ v → (most : ℕ) → EndsWithin most (Some v) xs → above k most xs (Some p) ≡ above k most xs (Some v)
  skipped k apart zero e = absurd e
  skipped k apart (suc j) e =
      ended k j xs (Some p) (subst (λ o. EndsWithin j o xs) base e)
      ∙ sym (through_step k j xs v ∙ ap₂ (λ a o. a || above k j xs o) (other_image k v apart) base)

  -- each other image is met as before
  kept : (k : Name) → k ≢ v → (most : ℕ) (o : Option Name) → EndsWithin most o xs → above k most ys o ≡ above k most xs o
  kept k apart most None e = refl
  kept k apart zero (Some n) e = absurd e
  kept k apart (suc most) (Some n) e = through_step k most ys n ∙ ap (λ b. same_image k n || b) (by (kept k apart most) (name_or_not n c)) ∙ sym (through_step k most xs n)
    where
      by : ((o : Option Name) → EndsWithin most o xs → above k most ys o ≡ above k most xs o) → (n ≡ c) ⊎ (n ≢ c) → above k most ys (parent_of n ys) ≡ above k most xs (parent_of n xs)
      by further (inr other) = ap (above k most ys) (others n other) ∙ further (parent_of n xs) e
      by further (inl same) =
          let at : parent_of n xs ≡ Some v = ap (λ m. parent_of m xs) same ∙ was in
          let at_now : parent_of n ys ≡ Some p = ap (λ m. parent_of m ys) same ∙ now in
          let ends : EndsWithin most (Some v) xs = subst (λ o. EndsWithin most o xs) at e in
          ap (above k most ys) at_now ∙ further (Some p) (ends_up most ends) ∙ skipped k apart most ends ∙ sym (ap (above k most xs) at)

  module _ (apart : c ≢ v) (c_image : is_image_name c ≡ true) (v_image : is_image_name v ≡ true) (j : ℕ) (ends_c : EndsWithin j (parent_of c xs) xs) (ends_v : EndsWithin j (parent_of v xs) xs) where
    -- the image is met where it was, but no longer by whoever meets the child
    lost : (most : ℕ) (o : Option Name) → EndsWithin most o xs → above v most ys o ≡ (above v most xs o && not (above c most xs o))
    lost most None e = refl
    lost zero (Some n) e = absurd e
    lost (suc most) (Some n) e = by (lost most) (name_or_not n c) (name_or_not n v)
      where
        stays : (a b d : Bool) → d ≡ false → ((a || b) && not d) ≡ (a || b)
        stays true b false e = refl
        stays false true false e = refl
        stays false false false e = refl
        stays a b true e = absurd (true≢false e)

        by : ((o : Option Name) → EndsWithin most o xs → above v most ys o ≡ (above v most xs o && not (above c most xs o))) → (n ≡ c) ⊎ (n ≢ c) → (n ≡ v) ⊎ (n ≢ v)
            → through v (suc most) ys n ≡ (through v (suc most) xs n && not (through c (suc most) xs n))
        by further (inl same) at_v =
            let at : parent_of n xs ≡ Some v = ap (λ m. parent_of m xs) same ∙ was in
            let at_now : parent_of n ys ≡ Some p = ap (λ m. parent_of m ys) same ∙ now in
            let ends : EndsWithin most (Some v) xs = subst (λ o. EndsWithin most o xs) at e in
            let none_up : above v most xs (Some p) ≡ false = ap (above v most xs) (sym base) ∙ not_above j most xs v ends_v in
            let has_c : through c (suc most) xs n ≡ true = through_step c most xs n ∙ ap (λ b. b || above c most xs (parent_of n xs)) (ap (same_image c) same ∙ same_image-refl c c_image) in
            through_step v most ys n ∙ ap₂ (λ a o. a || above v most ys o) (other_image v n (λ is. apart (sym same ∙ sym is))) at_now
            ∙ further (Some p) (ends_up most ends) ∙ and_false (above v most xs (Some p)) (not (above c most xs (Some p))) none_up
            ∙ sym (false_and (through v (suc most) xs n) (through c (suc most) xs n) has_c)
        by further (inr other) (inl same) =
            let one : same_image v n ≡ true = ap (same_image v) same ∙ same_image-refl v v_image in
            let none_c : through c (suc most) xs n ≡ false = ap (through c (suc most) xs) same ∙ ap (above c (suc most) xs) (sym was) ∙ not_above j (suc most) xs c ends_c in
            through_step v most ys n ∙ ap (λ b. b || above v most ys (parent_of n ys)) one
            ∙ sym (ap (λ b. b && not (through c (suc most) xs n)) (through_step v most xs n ∙ ap (λ b. b || above v most xs (parent_of n xs)) one) ∙ ap not none_c)
        by further (inr other) (inr away) =
            let v_other : same_image v n ≡ false = other_image v n (λ is. away (sym is)) in
            let c_other : same_image c n ≡ false = other_image c n (λ is. other (sym is)) in
            through_step v most ys n ∙ ap₂ (λ a o. a || above v most ys o) v_other (others n other)
            ∙ further (parent_of n xs) e
            ∙ sym (ap₂ (λ a b. a && not b) (through_step v most xs n ∙ ap (λ a. a || above v most xs (parent_of n xs)) v_other)
            (through_step c most xs n ∙ ap (λ a. a || above c most xs (parent_of n xs)) c_other))

    -- whoever meets the child meets the image behind it
    under : (most : ℕ) (o : Option Name) → EndsWithin most o xs → above c most xs o ≡ true → above v most xs o ≡ true
    under most None e h = h
    under zero (Some n) e h = absurd e
    under (suc most) (Some n) e h = through_step v most xs n ∙ by (under most) (name_or_not n c)
      where
        or_right : (a b : Bool) → b ≡ true → (a || b) ≡ true
        or_right true b e = refl
        or_right false b e = e

        first : (k : ℕ) → EndsWithin k (Some v) xs → above v k xs (Some v) ≡ true
        first zero e = absurd e
        first (suc k) e = through_step v k xs v ∙ ap (λ b. b || above v k xs (parent_of v xs)) (same_image-refl v v_image)

        by : ((o : Option Name) → EndsWithin most o xs → above c most xs o ≡ true → above v most xs o ≡ true) → (n ≡ c) ⊎ (n ≢ c) → (same_image v n || above v most xs (parent_of n xs)) ≡ true
        by further (inl same) =
            let at : parent_of n xs ≡ Some v = ap (λ m. parent_of m xs) same ∙ was in
            or_right (same_image v n) (above v most xs (parent_of n xs)) (ap (above v most xs) at ∙ first most (subst (λ o. EndsWithin most o xs) at e))
        by further (inr other) =
            let c_other : same_image c n ≡ false = other_image c n (λ is. other (sym is)) in
            or_right (same_image v n) (above v most xs (parent_of n xs)) (further (parent_of n xs) e (sym (through_step c most xs n ∙ ap (λ a. a || above c most xs (parent_of n xs)) c_other) ∙ h))

-- ---- counted over the attached disks

-- those that pass one test and not a narrower one, and those that pass the narrower one
parted : {A : Type 0} (f g h : A → Bool) (xs : List A) → ((x : A) → In x xs → h x ≡ (f x && not (g x))) → ((x : A) → In x xs → g x ≡ true → f x ≡ true)
    → length (filter h xs) + length (filter g xs) ≡ length (filter f xs)
parted f g h [] same narrow = refl
parted f g h (x ∷ xs) same narrow = by (f x) (g x) (h x) (same x (inl refl)) (narrow x (inl refl)) (parted f g h xs (λ y i. same y (inr i)) (λ y i. narrow y (inr i)))
  where
    by : (a b d : Bool) → d ≡ (a && not b) → (b ≡ true → a ≡ true) → length (filter h xs) + length (filter g xs) ≡ length (filter f xs)
        → length (cond d (x ∷ filter h xs) (filter h xs)) + length (cond b (x ∷ filter g xs) (filter g xs)) ≡ length (cond a (x ∷ filter f xs) (filter f xs))
    by true true false is n rest = omega (arith, rest)
    by true true true is n rest = absurd (true≢false is)
    by true false true is n rest = omega (arith, rest)
    by true false false is n rest = absurd (true≢false (sym is))
    by false true d is n rest = absurd (true≢false (sym (n refl)))
    by false false false is n rest = rest
    by false false true is n rest = absurd (true≢false is)

filter_alike : {A : Type 0} (f g : A → Bool) (xs : List A) → ((x : A) → In x xs → f x ≡ g x) → filter f xs ≡ filter g xs
filter_alike f g [] same = refl
filter_alike f g (x ∷ xs) same = ap₂ (λ b ys. cond b (x ∷ ys) ys) (same x (inl refl)) (filter_alike f g xs (λ y i. same y (inr i)))

abbrev pub name_of : Option ImageRow → Option Name
name_of o = option_map (λ (i : ImageRow). i.name) o

reads_above : (k : Name) (s : Shape) (u : List ℕ) → reads_through k s u ≡ above k chain_limit s.images (name_of (disk_image u s))
reads_above k s u = by (disk_image u s)
  where
    by : (o : Option ImageRow) → (elim o as (λ o. Bool) [ None ↦ false | Some i ↦ list_any (same_image k) (chain chain_limit i.name s.images) ]) ≡ above k chain_limit s.images (name_of o)
    by None = refl
    by (Some i) = refl

-- a child linked past an image to that image's parent, in a shape
pub record IsPast (s : Shape) (ys : List ImageRow) (c v p : Name) : Type 0 where
  pub was : parent_of c s.images ≡ Some v
  pub now : parent_of c ys ≡ Some p
  pub base : parent_of v s.images ≡ Some p
  pub others : (n : Name) → n ≢ c → parent_of n ys ≡ parent_of n s.images
  pub apart : c ≢ v
  pub c_image : is_image_name c ≡ true
  pub v_image : is_image_name v ≡ true
  pub shown : (u : List ℕ) → name_of (find (is_image_of u) ys) ≡ name_of (find (is_image_of u) s.images)
  pub ends : (i : ImageRow) → In i s.images → EndsWithin chain_limit (Some i.name) s.images
  pub ends_c : EndsWithin 29 (parent_of c s.images) s.images
  pub ends_v : EndsWithin 29 (parent_of v s.images) s.images

module _ (s : Shape) (ys : List ImageRow) (c v p : Name) (h : IsPast s ys c v p) where
  abbrev linked : Shape
  linked = record s { images = ys }

  ends_disk : (u : List ℕ) → EndsWithin chain_limit (name_of (disk_image u s)) s.images
  ends_disk u = by (disk_image u s) refl
    where
      by : (o : Option ImageRow) → disk_image u s ≡ o → EndsWithin chain_limit (name_of o) s.images
      by None is = tt
      by (Some i) is = h.ends i (find-some (is_image_of u) s.images i is).0

  reads_now : (k : Name) (u : List ℕ) → reads_through k linked u ≡ above k chain_limit ys (name_of (disk_image u s))
  reads_now k u = reads_above k linked u ∙ ap (above k chain_limit ys) (h.shown u)

  -- all other images are read through as before
  pub uses_other : (n : Name) → n ≢ v → refs n (record s { images = ys }) ≡ refs n s
  unfolding refs
  uses_other n other = ap length (filter_alike (λ (a : Attachment). reads_through n linked a.disk) (λ (a : Attachment). reads_through n s a.disk) s.attached (λ a i.
      reads_now n a.disk ∙ kept s.images ys c v p h.was h.now h.base h.others n other chain_limit (name_of (disk_image a.disk s)) (ends_disk a.disk) ∙ sym (reads_above n s a.disk)))

  -- and the image by those that do not read through the child
  pub uses_out : refs v (record s { images = ys }) + refs c s ≡ refs v s
  unfolding refs
  uses_out = parted (λ (a : Attachment). reads_through v s a.disk) (λ (a : Attachment). reads_through c s a.disk) (λ (a : Attachment). reads_through v linked a.disk) s.attached
      (λ a i. reads_now v a.disk
      ∙ lost s.images ys c v p h.was h.now h.base h.others h.apart h.c_image h.v_image 29 h.ends_c h.ends_v chain_limit (name_of (disk_image a.disk s)) (ends_disk a.disk)
      ∙ sym (ap₂ (λ x y. x && not y) (reads_above v s a.disk) (reads_above c s a.disk)))
      (λ a i has. reads_above v s a.disk
      ∙ under s.images ys c v p h.was h.now h.base h.others h.apart h.c_image h.v_image 29 h.ends_c h.ends_v chain_limit (name_of (disk_image a.disk s)) (ends_disk a.disk)
      (sym (reads_above c s a.disk) ∙ has))
