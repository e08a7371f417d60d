-- Elements, lists of which no element stands twice, and order, through filters, maps and insertions; finding; numbers in a row.
use Rattle.std.proofs.Common.{◌≡◌, suc, Bool, true, false, cond, ◌||◌, ◌⊎◌, List, [], ◌∷◌, ◌++◌, map, length, Some, None, refl, sym, ap, ◌∙◌, subst, inl, inr, ℕ, zero, ◌+◌, ◌<◌, ◌≤◌, Option, take, get_or, arith}
use Rattle.std.specs.List.{filter, find, list_any}
use Rattle.std.proofs.lemmas.Bool.{cases_lt}
use Rattle.common_laws.specs.Lists.{In, Distinct, Sorted, insert_by, numbers, first_some}

pub In-append : {A : Type 0} (xs ys : List A) (x : A) → In x (xs ++ ys) → In x xs ⊎ In x ys
In-append [] ys x h = inr h
In-append (y ∷ xs) ys x (inl e) = inl (inl e)
In-append (y ∷ xs) ys x (inr h) = elim (In-append xs ys x h) [ inl a ↦ inl (inr a) | inr b ↦ inr b ]

pub In-left : {A : Type 0} (xs ys : List A) (x : A) → In x xs → In x (xs ++ ys)
In-left [] ys x h = absurd h
In-left (y ∷ xs) ys x (inl e) = inl e
In-left (y ∷ xs) ys x (inr h) = inr (In-left xs ys x h)

-- ---- filters

filter_case : {A : Type 0} (t : A → Bool) (y : A) (ys : List A) (x : A) (b : Bool) → t y ≡ b → (In x (filter t ys) → In x ys × (t x ≡ true)) → In x (cond b (y ∷ filter t ys) (filter t ys)) → In x (y ∷ ys) × (t x ≡ true)
filter_case t y ys x true e ih (inl q) = (inl q, ap t q ∙ e)
filter_case t y ys x true e ih (inr h) = let r : In x ys × (t x ≡ true) = ih h in (inr r.0, r.1)
filter_case t y ys x false e ih h = let r : In x ys × (t x ≡ true) = ih h in (inr r.0, r.1)

pub In-filter : {A : Type 0} (t : A → Bool) (xs : List A) (x : A) → In x (filter t xs) → In x xs × (t x ≡ true)
In-filter t [] x h = absurd h
In-filter t (y ∷ ys) x h = filter_case t y ys x (t y) refl (In-filter t ys x) h

kept_case : {A : Type 0} (t : A → Bool) (y : A) (ys : List A) (x : A) (b : Bool) → t y ≡ b → t x ≡ true → (In x ys → In x (filter t ys)) → In x (y ∷ ys) → In x (cond b (y ∷ filter t ys) (filter t ys))
kept_case t y ys x true e p ih (inl q) = inl q
kept_case t y ys x true e p ih (inr h) = inr (ih h)
kept_case t y ys x false e p ih (inl q) = let r : true ≡ false = sym p ∙ (ap t q ∙ e) in cc
kept_case t y ys x false e p ih (inr h) = ih h

pub filter-In : {A : Type 0} (t : A → Bool) (xs : List A) (x : A) → In x xs → t x ≡ true → In x (filter t xs)
filter-In t [] x h p = absurd h
filter-In t (y ∷ ys) x h p = kept_case t y ys x (t y) refl p (λ g. filter-In t ys x g p) h

-- ---- maps

pub In-map : {A B : Type 0} (f : A → B) (xs : List A) (y : B) → In y (map f xs) → (x : A) × In x xs × (y ≡ f x)
In-map f [] y h = absurd h
In-map f (x ∷ xs) y (inl e) = (x, inl refl, e)
In-map f (x ∷ xs) y (inr h) = let r : (z : _) × In z xs × (y ≡ f z) = In-map f xs y h in (r.0, inr r.1, r.2)

pub In-map_at : {A B : Type 0} (f : A → B) (xs : List A) (x : A) → In x xs → In (f x) (map f xs)
In-map_at f [] x h = absurd h
In-map_at f (y ∷ xs) x (inl e) = inl (ap f e)
In-map_at f (y ∷ xs) x (inr h) = inr (In-map_at f xs x h)

-- ---- insertions

insert_case : {A : Type 0} (before : A → A → Bool) (y z : A) (zs : List A) (x : A) (b : Bool) → (In x (insert_by before y zs) → (x ≡ y) ⊎ In x zs) → In x (cond b (y ∷ z ∷ zs) (z ∷ insert_by before y zs)) → (x ≡ y) ⊎ In x (z ∷ zs)
insert_case before y z zs x true ih (inl e) = inl e
insert_case before y z zs x true ih (inr h) = inr h
insert_case before y z zs x false ih (inl e) = inr (inl e)
insert_case before y z zs x false ih (inr h) = elim (ih h) [ inl e ↦ inl e | inr g ↦ inr (inr g) ]

pub In-insert : {A : Type 0} (before : A → A → Bool) (y : A) (xs : List A) (x : A) → In x (insert_by before y xs) → (x ≡ y) ⊎ In x xs
unfolding insert_by
In-insert before y [] x (inl e) = inl e
In-insert before y [] x (inr h) = absurd h
In-insert before y (z ∷ zs) x h = insert_case before y z zs x (before y z) (In-insert before y zs x) h

new_case : {A : Type 0} (before : A → A → Bool) (y z : A) (zs : List A) (b : Bool) → In y (insert_by before y zs) → In y (cond b (y ∷ z ∷ zs) (z ∷ insert_by before y zs))
new_case before y z zs true ih = inl refl
new_case before y z zs false ih = inr ih

pub In-insert_new : {A : Type 0} (before : A → A → Bool) (y : A) (xs : List A) → In y (insert_by before y xs)
unfolding insert_by
In-insert_new before y [] = inl refl
In-insert_new before y (z ∷ zs) = new_case before y z zs (before y z) (In-insert_new before y zs)

old_case : {A : Type 0} (before : A → A → Bool) (y z : A) (zs : List A) (x : A) (b : Bool) → (In x zs → In x (insert_by before y zs)) → In x (z ∷ zs) → In x (cond b (y ∷ z ∷ zs) (z ∷ insert_by before y zs))
old_case before y z zs x true ih h = inr h
old_case before y z zs x false ih (inl e) = inl e
old_case before y z zs x false ih (inr h) = inr (ih h)

pub In-insert_old : {A : Type 0} (before : A → A → Bool) (y : A) (xs : List A) (x : A) → In x xs → In x (insert_by before y xs)
unfolding insert_by
In-insert_old before y [] x h = absurd h
In-insert_old before y (z ∷ zs) x h = old_case before y z zs x (before y z) (In-insert_old before y zs x) h

length_case : {A : Type 0} (before : A → A → Bool) (y z : A) (zs : List A) (b : Bool) → length (insert_by before y zs) ≡ suc (length zs) → length (cond b (y ∷ z ∷ zs) (z ∷ insert_by before y zs)) ≡ suc (suc (length zs))
length_case before y z zs true ih = refl
length_case before y z zs false ih = ap suc ih

pub length-insert_by : {A : Type 0} (before : A → A → Bool) (y : A) (xs : List A) → length (insert_by before y xs) ≡ suc (length xs)
unfolding insert_by
length-insert_by before y [] = refl
length-insert_by before y (z ∷ zs) = length_case before y z zs (before y z) (length-insert_by before y zs)

-- ---- no element twice

pub Distinct-key : {A B : Type 0} (k : A → B) (xs : List A) (x y : A) → Distinct (map k xs) → In x xs → In y xs → k x ≡ k y → x ≡ y
Distinct-key k [] x y d h g e = absurd h
Distinct-key k (z ∷ zs) x y d (inl p) (inl q) e = p ∙ sym q
Distinct-key k (z ∷ zs) x y d (inl p) (inr g) e = absurd (d.0 (subst (λ v. In v (map k zs)) (sym e ∙ ap k p) (In-map_at k zs y g)))
Distinct-key k (z ∷ zs) x y d (inr h) (inl q) e = absurd (d.0 (subst (λ v. In v (map k zs)) (e ∙ ap k q) (In-map_at k zs x h)))
Distinct-key k (z ∷ zs) x y d (inr h) (inr g) e = Distinct-key k zs x y d.1 h g e

insert_distinct : {A B : Type 0} (k : A → B) (before : A → A → Bool) (y z : A) (zs : List A) (b : Bool) → (Distinct (map k (z ∷ zs))) → ¬ In (k y) (map k (z ∷ zs)) → Distinct (map k (insert_by before y zs)) → Distinct (map k (cond b (y ∷ z ∷ zs) (z ∷ insert_by before y zs)))
insert_distinct k before y z zs true d n ih = (n, d)
insert_distinct {A} {B} k before y z zs false d n ih = (
  λ h.
      let r : (x : A) × In x (insert_by before y zs) × (k z ≡ k x) = In-map k (insert_by before y zs) (k z) h in
      elim (In-insert before y zs r.0 r.1) as (λ _. ⊥) [
        | inl e ↦ n (inl (sym (r.2 ∙ ap k e)))
        | inr g ↦ d.0 (subst (λ v. In v (map k zs)) (sym r.2) (In-map_at k zs r.0 g))
      ],
  ih,
)

pub Distinct-insert : {A B : Type 0} (k : A → B) (before : A → A → Bool) (y : A) (xs : List A) → Distinct (map k xs) → ¬ In (k y) (map k xs) → Distinct (map k (insert_by before y xs))
unfolding insert_by
Distinct-insert k before y [] d n = (λ h. h, tt)
Distinct-insert k before y (z ∷ zs) d n = insert_distinct k before y z zs (before y z) d n (Distinct-insert k before y zs d.1 (λ h. n (inr h)))

filter_distinct : {A B : Type 0} (k : A → B) (t : A → Bool) (z : A) (zs : List A) (b : Bool) → Distinct (map k (z ∷ zs)) → Distinct (map k (filter t zs)) → Distinct (map k (cond b (z ∷ filter t zs) (filter t zs)))
filter_distinct {A} {B} k t z zs true d ih = (
  λ h.
      let r : (x : A) × In x (filter t zs) × (k z ≡ k x) = In-map k (filter t zs) (k z) h in
      d.0 (subst (λ v. In v (map k zs)) (sym r.2) (In-map_at k zs r.0 (In-filter t zs r.0 r.1).0)),
  ih,
)
filter_distinct k t z zs false d ih = ih

pub Distinct-filter : {A B : Type 0} (k : A → B) (t : A → Bool) (xs : List A) → Distinct (map k xs) → Distinct (map k (filter t xs))
Distinct-filter k t [] d = tt
Distinct-filter k t (z ∷ zs) d = filter_distinct k t z zs (t z) d (Distinct-filter k t zs d.1)

-- ---- order

insert_sorted : {A B : Type 0} (k : A → B) (le : B → B → Bool) (before : A → A → Bool) (y z : A) (zs : List A) (b : Bool) → before y z ≡ b
    → (before y z ≡ true → le (k y) (k z) ≡ true) → (before y z ≡ false → le (k z) (k y) ≡ true)
    → ((v w x : B) → le v w ≡ true → le w x ≡ true → le v x ≡ true)
    → Sorted le (map k (z ∷ zs)) → Sorted le (map k (insert_by before y zs)) → Sorted le (map k (cond b (y ∷ z ∷ zs) (z ∷ insert_by before y zs)))
insert_sorted {A} {B} k le before y z zs true e first later chain d ih = (
  λ v h. elim h as (λ _. le (k y) v ≡ true) [
    | inl q ↦ subst (λ w. le (k y) w ≡ true) (sym q) (first e)
    | inr g ↦ chain (k y) (k z) v (first e) (d.0 v g)
  ],
  d,
)
insert_sorted {A} {B} k le before y z zs false e first later chain d ih = (
  λ v h.
      let r : (x : A) × In x (insert_by before y zs) × (v ≡ k x) = In-map k (insert_by before y zs) v h in
      elim (In-insert before y zs r.0 r.1) as (λ _. le (k z) v ≡ true) [
        | inl q ↦ subst (λ w. le (k z) w ≡ true) (sym (r.2 ∙ ap k q)) (later e)
        | inr g ↦ d.0 v (subst (λ w. In w (map k zs)) (sym r.2) (In-map_at k zs r.0 g))
      ],
  ih,
)

pub Sorted-insert : {A B : Type 0} (k : A → B) (le : B → B → Bool) (before : A → A → Bool)
    → ((x y : A) → before x y ≡ true → le (k x) (k y) ≡ true) → ((x y : A) → before x y ≡ false → le (k y) (k x) ≡ true)
    → ((v w x : B) → le v w ≡ true → le w x ≡ true → le v x ≡ true)
    → (y : A) (xs : List A) → Sorted le (map k xs) → Sorted le (map k (insert_by before y xs))
unfolding insert_by
Sorted-insert k le before first later chain y [] d = (λ v h. absurd h, tt)
Sorted-insert k le before first later chain y (z ∷ zs) d = insert_sorted k le before y z zs (before y z) refl (first y z) (later y z) chain d (Sorted-insert k le before first later chain y zs d.1)

filter_sorted : {A B : Type 0} (k : A → B) (le : B → B → Bool) (t : A → Bool) (z : A) (zs : List A) (b : Bool) → Sorted le (map k (z ∷ zs)) → Sorted le (map k (filter t zs)) → Sorted le (map k (cond b (z ∷ filter t zs) (filter t zs)))
filter_sorted {A} {B} k le t z zs true d ih = (
  λ v h.
      let r : (x : A) × In x (filter t zs) × (v ≡ k x) = In-map k (filter t zs) v h in
      d.0 v (subst (λ w. In w (map k zs)) (sym r.2) (In-map_at k zs r.0 (In-filter t zs r.0 r.1).0)),
  ih,
)
filter_sorted k le t z zs false d ih = ih

pub Sorted-filter : {A B : Type 0} (k : A → B) (le : B → B → Bool) (t : A → Bool) (xs : List A) → Sorted le (map k xs) → Sorted le (map k (filter t xs))
Sorted-filter k le t [] d = tt
Sorted-filter k le t (z ∷ zs) d = filter_sorted k le t z zs (t z) d (Sorted-filter k le t zs d.1)

-- ---- the first that passes

found_case : {A : Type 0} (t : A → Bool) (z : A) (zs : List A) (x : A) (b : Bool) → t z ≡ b → (find t zs ≡ Some x → In x zs × (t x ≡ true)) → cond b (Some z) (find t zs) ≡ Some x → In x (z ∷ zs) × (t x ≡ true)
found_case t z zs x true e ih q = let same : z ≡ x = cc in (inl (sym same), ap t (sym same) ∙ e)
found_case t z zs x false e ih q = let r : In x zs × (t x ≡ true) = ih q in (inr r.0, r.1)

pub find-some : {A : Type 0} (t : A → Bool) (xs : List A) (x : A) → find t xs ≡ Some x → In x xs × (t x ≡ true)
find-some t [] x e = cc
find-some t (z ∷ zs) x e = found_case t z zs x (t z) refl (find-some t zs x) e

none_case : {A : Type 0} (t : A → Bool) (z : A) (zs : List A) (x : A) (b : Bool) → t z ≡ b → (find t zs ≡ None → In x zs → t x ≡ false) → cond b (Some z) (find t zs) ≡ None → In x (z ∷ zs) → t x ≡ false
none_case t z zs x true e ih q h = cc
none_case t z zs x false e ih q (inl p) = ap t p ∙ e
none_case t z zs x false e ih q (inr h) = ih q h

pub find-none : {A : Type 0} (t : A → Bool) (xs : List A) (x : A) → find t xs ≡ None → In x xs → t x ≡ false
find-none t [] x e h = absurd h
find-none t (z ∷ zs) x e h = none_case t z zs x (t z) refl (find-none t zs x) e h

find_only_case : {A : Type 0} (t : A → Bool) (z : A) (zs : List A) (x : A) (b : Bool) → t z ≡ b → t x ≡ true → (In x zs → find t zs ≡ Some x) → (t z ≡ true → z ≡ x) → In x (z ∷ zs) → cond b (Some z) (find t zs) ≡ Some x
find_only_case t z zs x true e p ih same h = ap Some (same e)
find_only_case t z zs x false e p ih same (inl q) = let r : true ≡ false = sym p ∙ (ap t q ∙ e) in cc
find_only_case t z zs x false e p ih same (inr h) = ih h

pub find-only : {A : Type 0} (t : A → Bool) (xs : List A) (x : A) → In x xs → t x ≡ true → ((y : A) → In y xs → t y ≡ true → y ≡ x) → find t xs ≡ Some x
find-only t [] x h p same = absurd h
find-only t (z ∷ zs) x h p same = find_only_case t z zs x (t z) refl p (λ g. find-only t zs x g p (λ y r q. same y (inr r) q)) (λ q. same z (inl refl) q) h

any_case : {A : Type 0} (t : A → Bool) (z : A) (zs : List A) (b : Bool) → t z ≡ b → (find t zs ≡ None → list_any t zs ≡ false) → cond b (Some z) (find t zs) ≡ None → t z || list_any t zs ≡ false
any_case t z zs true e ih q = cc
any_case t z zs false e ih q = rw (e, ih q)

pub list_any-find : {A : Type 0} (t : A → Bool) (xs : List A) → find t xs ≡ None → list_any t xs ≡ false
list_any-find t [] e = refl
list_any-find t (z ∷ zs) e = any_case t z zs (t z) refl (list_any-find t zs) e

-- ---- where none passes

find_step : {A : Type 0} (b : Bool) (x : A) (rest : Option A) → b ≡ false → rest ≡ None → cond b (Some x) rest ≡ None
find_step true x rest h k = absurd (let e = h in cc)
find_step false x rest h k = k

-- where no element passes, none is found
pub find_none : {A : Type 0} (test : A → Bool) (xs : List A) → ((x : A) → In x xs → test x ≡ false) → find test xs ≡ None
find_none test [] fails = refl
find_none test (x ∷ xs) fails = find_step (test x) x (find test xs) (fails x (inl refl)) (find_none test xs (λ y h. fails y (inr h)))

-- and where none is found, no element passes
pub none_find : {A : Type 0} (test : A → Bool) (xs : List A) → find test xs ≡ None → (x : A) → In x xs → test x ≡ false
none_find test xs h x k = find-none test xs x h k

first_step : {A : Type 0} (o : Option A) (xs : List (Option A)) → first_some (o ∷ xs) ≡ None → (o ≡ None) × (first_some xs ≡ None)
first_step None xs h = (refl, h)
first_step (Some x) xs h = absurd (let e = h in cc)

-- where there is no first, none is there
pub none_first : {A : Type 0} (xs : List (Option A)) → first_some xs ≡ None → (o : Option A) → In o xs → o ≡ None
none_first [] h o k = elim k [ ]
none_first (x ∷ xs) h o (inl is) = is ∙ (first_step x xs h).0
none_first (x ∷ xs) h o (inr k) = none_first xs (first_step x xs h).1 o k

-- and where none is there, there is no first
pub first_none : {A : Type 0} (xs : List (Option A)) → ((o : Option A) → In o xs → o ≡ None) → first_some xs ≡ None
first_none [] all = refl
first_none (x ∷ xs) all = with_first x (all x (inl refl)) (first_none xs (λ o k. all o (inr k)))
  where
    with_first : (o : Option _) → o ≡ None → first_some xs ≡ None → first_some (o ∷ xs) ≡ None
    with_first None h k = k
    with_first (Some y) h k = absurd (let e = h in cc)

-- the numbers from a on are those
pub In-numbers : (a n k : ℕ) → In k (numbers a n) → (a ≤ k) × (k < a + n)
unfolding numbers
In-numbers a zero k h = elim h [ ]
In-numbers a (suc n) k (inl is) = (omega (arith, is), omega (arith, is))
In-numbers a (suc n) k (inr h) = let w = In-numbers (a + 1) n k h in (omega arith, omega arith)

at_or_after : (a n k : ℕ) → a ≤ k → (a < k) ⊎ (k ≤ a) → (a + 1 ≤ k → In k (numbers (a + 1) n)) → (k ≡ a) ⊎ In k (numbers (a + 1) n)
at_or_after a n k from (inl after) rest = inr (rest (omega arith))
at_or_after a n k from (inr not_after) rest = inl (omega arith)

pub numbers-In : (a n k : ℕ) → a ≤ k → k < a + n → In k (numbers a n)
unfolding numbers
numbers-In a zero k from below = absurd (omega arith)
numbers-In a (suc n) k from below = at_or_after a n k from (cases_lt a k) (λ after. numbers-In (a + 1) n k after (omega arith))

-- ---- one element more

pub take_next : {X : Type 0} (hs : List X) (i : ℕ) (h : X) → i < length hs → h ≡ get_or hs i h → take (i + 1) hs ≡ take i hs ++ h ∷ []
take_next [] i h lt is = absurd (omega arith)
take_next (x ∷ hs) zero h lt is = ap (λ (y : _). y ∷ []) (sym is)
take_next (x ∷ hs) (suc i) h lt is =
    let next : suc i + 1 ≡ suc (i + 1) = omega arith in
    rw next (ap (λ (l : _). x ∷ l) (take_next hs i h (omega arith) is))
