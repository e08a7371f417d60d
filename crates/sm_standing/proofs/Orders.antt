-- Lists in strictly rising order: two with the same elements are one, and what insertion and selection do to them.
use Rattle.std.proofs.Common.{◌≡◌, ◌⊎◌, inl, inr, ⊎_elim, cond, List, [], ◌∷◌, Option, Some, None, refl, sym, ap, ap₂, ◌∙◌, subst}
use Rattle.std.specs.declared.cmp.Ordering.{Ordering}
use Rattle.std.specs.declared.cmp.Ordering.TheVariants.{Less, Equal, Greater}
use Rattle.std.specs.Cmp.{IsTotalOrder}
use Rattle.std.specs.Ordering.{is_lt}
use Rattle.std.specs.List.{filter_map, cons_option}
use Rattle.common_laws.specs.Lists.{In, insert_by}
use Rattle.sm_standing.specs.Ordered.{Rising}

-- the elements of the one are elements of the other
abbrev pub Within : {K : Type 0} → List K → List K → Type 0
Within {K} xs ys = (u : K) → In u xs → In u ys

module _ {K : Type 0} (R : K → K → Ordering) (total : IsTotalOrder R) where
  -- not both before each other
  pub not_both : (x y : K) → R x y ≡ Less → R y x ≡ Less → ⊥
  not_both x y xy yx = let e = total.antisymm x y in cc

  pub not_itself : (x : K) → R x x ≡ Less → ⊥
  not_itself x h = not_both x x h h

  pub rising_ext : (xs ys : List K) → Rising R xs → Rising R ys → Within xs ys → Within ys xs → xs ≡ ys
  rising_ext [] [] rx ry xy yx = refl
  rising_ext [] (y ∷ ys) rx ry xy yx = absurd (yx y (inl refl))
  rising_ext (x ∷ xs) [] rx ry xy yx = absurd (xy x (inl refl))
  rising_ext (x ∷ xs) (y ∷ ys) rx ry xy yx =
      let same : x ≡ y = first (xy x (inl refl)) (yx y (inl refl)) in
      let front : Within xs ys = λ u h. rest_of (xy u (inr h)) (λ is. not_itself x (subst (λ v. R x v ≡ Less) (is ∙ sym same) (rx.0 u h))) in
      let back : Within ys xs = λ u h. rest_of (yx u (inr h)) (λ is. not_itself y (subst (λ v. R y v ≡ Less) (is ∙ same) (ry.0 u h))) in
      ap₂ (λ (a : K) (rest : List K). a ∷ rest) same (rising_ext xs ys rx.1 ry.1 front back)
    where
      first : (x ≡ y) ⊎ In x ys → (y ≡ x) ⊎ In y xs → x ≡ y
      first (inl is) _ = is
      first (inr later) (inl is) = sym is
      first (inr later) (inr after) = absurd (not_both x y (rx.0 y after) (ry.0 x later))

      rest_of : {A : Type 0} {B : Type 0} → A ⊎ B → (A → ⊥) → B
      rest_of (inl a) no_a = absurd (no_a a)
      rest_of (inr b) no_a = b

  -- before each element of a rising list, or at one of them, or to be put behind the first
  pub compared : (x y : K) → (R x y ≡ Less) ⊎ ((R x y ≡ Equal) ⊎ (R y x ≡ Less))
  compared x y = of_order (R x y) refl
    where
      of_order : (o : Ordering) → R x y ≡ o → (R x y ≡ Less) ⊎ ((R x y ≡ Equal) ⊎ (R y x ≡ Less))
      of_order Less is = inl is
      of_order Equal is = inr (inl is)
      of_order Greater is = inr (inr (let e = total.antisymm y x in cc))

  -- an insertion, step by step
  insert_step : (x y : K) (ys : List K) → List K → List K
  insert_step x y ys rest = cond (is_lt (R x y)) (x ∷ y ∷ ys) (y ∷ rest)

  In-step : (x y u : K) (ys rest : List K) (o : Ordering) → (In u rest → (u ≡ x) ⊎ In u ys)
      → In u (cond (is_lt o) (x ∷ y ∷ ys) (y ∷ rest)) → (u ≡ x) ⊎ In u (y ∷ ys)
  In-step x y u ys rest Less from (inl is) = inl is
  In-step x y u ys rest Less from (inr h) = inr h
  In-step x y u ys rest Equal from (inl is) = inr (inl is)
  In-step x y u ys rest Equal from (inr h) = ⊎_elim (λ is. inl is) (λ k. inr (inr k)) (from h)
  In-step x y u ys rest Greater from (inl is) = inr (inl is)
  In-step x y u ys rest Greater from (inr h) = ⊎_elim (λ is. inl is) (λ k. inr (inr k)) (from h)

  -- what stands in the list afterwards is the new element or stood there
  pub In-insert : (x u : K) (ys : List K) → In u (insert_by (λ a b. is_lt (R a b)) x ys) → (u ≡ x) ⊎ In u ys
  unfolding insert_by
  In-insert x u [] (inl is) = inl is
  In-insert x u [] (inr none) = elim none [ ]
  In-insert x u (y ∷ ys) h = In-step x y u ys (insert_by (λ a b. is_lt (R a b)) x ys) (R x y) (In-insert x u ys) h

  new-step : (x y : K) (ys rest : List K) (o : Ordering) → In x rest → In x (cond (is_lt o) (x ∷ y ∷ ys) (y ∷ rest))
  new-step x y ys rest Less h = inl refl
  new-step x y ys rest Equal h = inr h
  new-step x y ys rest Greater h = inr h

  -- the new element stands there
  pub new-insert : (x : K) (ys : List K) → In x (insert_by (λ a b. is_lt (R a b)) x ys)
  unfolding insert_by
  new-insert x [] = inl refl
  new-insert x (y ∷ ys) = new-step x y ys (insert_by (λ a b. is_lt (R a b)) x ys) (R x y) (new-insert x ys)

  old-step : (x y u : K) (ys rest : List K) (o : Ordering) → (In u ys → In u rest) → In u (y ∷ ys) → In u (cond (is_lt o) (x ∷ y ∷ ys) (y ∷ rest))
  old-step x y u ys rest Less from h = inr h
  old-step x y u ys rest Equal from (inl is) = inl is
  old-step x y u ys rest Equal from (inr h) = inr (from h)
  old-step x y u ys rest Greater from (inl is) = inl is
  old-step x y u ys rest Greater from (inr h) = inr (from h)

  -- and so does what stood there
  pub old-insert : (x u : K) (ys : List K) → In u ys → In u (insert_by (λ a b. is_lt (R a b)) x ys)
  unfolding insert_by
  old-insert x u [] h = absurd h
  old-insert x u (y ∷ ys) h = old-step x y u ys (insert_by (λ a b. is_lt (R a b)) x ys) (R x y) (old-insert x u ys) h

  rising-step : (x y : K) (ys rest : List K) (o : Ordering) → R x y ≡ o → (R x y ≡ Equal → ⊥) → ((y : K) → In y ys → (R x y ≡ Equal → ⊥))
      → Rising R (y ∷ ys) → Rising R rest → ((u : K) → In u rest → (u ≡ x) ⊎ In u ys)
      → Rising R (cond (is_lt o) (x ∷ y ∷ ys) (y ∷ rest))
  rising-step x y ys rest Less is other others r rr from = (all, r)
    where
      all : (u : K) → In u (y ∷ ys) → R x u ≡ Less
      all u (inl same) = subst (λ v. R x v ≡ Less) (sym same) is
      all u (inr h) = total.trans x y u is (r.0 u h)
  rising-step x y ys rest Equal is other others r rr from = absurd (other is)
  rising-step x y ys rest Greater is other others r rr from = (all, rr)
    where
      behind : R y x ≡ Less
      behind = let e = total.antisymm y x in cc

      all : (u : K) → In u rest → R y u ≡ Less
      all u h = ⊎_elim (λ same. subst (λ v. R y v ≡ Less) (sym same) behind) (λ k. r.0 u k) (from u h)

  -- an insertion keeps the order, where no element compares as the new one
  pub rising-insert : (x : K) (ys : List K) → ((y : K) → In y ys → R x y ≡ Equal → ⊥) → Rising R ys → Rising R (insert_by (λ a b. is_lt (R a b)) x ys)
  unfolding insert_by
  rising-insert x [] others r = ((λ u h. absurd h), tt)
  rising-insert x (y ∷ ys) others r =
      rising-step x y ys (insert_by (λ a b. is_lt (R a b)) x ys) (R x y) refl (others y (inl refl)) (λ u h. others u (inr h)) r
      (rising-insert x ys (λ u h. others u (inr h)) r.1) (λ u h. In-insert x u ys h)

-- ---- selection

In-cons_option : {A : Type 0} (o : Option A) (d : A) (rest : List A) → In d (cons_option o rest) → (o ≡ Some d) ⊎ In d rest
In-cons_option None d rest h = inr h
In-cons_option (Some x) d rest (inl is) = inl (ap Some (sym is))
In-cons_option (Some x) d rest (inr h) = inr h

-- what is selected comes from an element
pub In-filter_map : {A B : Type 0} (f : A → Option B) (xs : List A) (d : B) → In d (filter_map f xs) → (u : A) × In u xs × (f u ≡ Some d)
In-filter_map f [] d h = absurd h
In-filter_map f (x ∷ xs) d h =
    ⊎_elim (λ is. (x, inl refl, is)) (λ k. let w = In-filter_map f xs d k in (w.0, inr w.1, w.2)) (In-cons_option (f x) d (filter_map f xs) h)

pushed : {A : Type 0} (o : Option A) (d : A) (rest : List A) → In d rest → In d (cons_option o rest)
pushed None d rest h = h
pushed (Some x) d rest h = inr h

-- and what an element gives is selected
pub filter_map-In : {A B : Type 0} (f : A → Option B) (xs : List A) (u : A) (d : B) → In u xs → f u ≡ Some d → In d (filter_map f xs)
filter_map-In f [] u d h is = absurd h
filter_map-In f (x ∷ xs) u d (inl same) is =
    subst (λ o. In d (cons_option o (filter_map f xs))) (sym (ap f (sym same) ∙ is)) (inl refl)
filter_map-In f (x ∷ xs) u d (inr h) is = pushed (f x) d (filter_map f xs) (filter_map-In f xs u d h is)

rising-pushed : {A B : Type 0} (R : A → A → Ordering) (S : B → B → Ordering) (f : A → Option B)
    → ((u v : A) (d e : B) → f u ≡ Some d → f v ≡ Some e → R u v ≡ Less → S d e ≡ Less)
    → (x : A) (xs : List A) → ((y : A) → In y xs → R x y ≡ Less) → (o : Option B) → f x ≡ o → Rising S (filter_map f xs) → Rising S (cons_option o (filter_map f xs))
rising-pushed R S f keeps x xs first None is rest = rest
rising-pushed R S f keeps x xs first (Some d) is rest = ((λ e h. let w = In-filter_map f xs e h in keeps x w.0 d e is w.2 (first w.0 w.1)), rest)

-- a selection that keeps what is compared is in order
pub rising-filter_map : {A B : Type 0} (R : A → A → Ordering) (S : B → B → Ordering) (f : A → Option B)
    → ((u v : A) (d e : B) → f u ≡ Some d → f v ≡ Some e → R u v ≡ Less → S d e ≡ Less)
    → (xs : List A) → Rising R xs → Rising S (filter_map f xs)
rising-filter_map R S f keeps [] r = tt
rising-filter_map R S f keeps (x ∷ xs) r = rising-pushed R S f keeps x xs r.0 (f x) refl (rising-filter_map R S f keeps xs r.1)
