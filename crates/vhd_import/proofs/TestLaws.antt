-- Tests over numbers and over lists, and what their answers say.
use Rattle.std.proofs.Common.{◌≡◌, inl, inr, ⊎_elim, ℕ, zero, suc, ◌/◌, ◌<◌, ◌≤◌, Bool, true, false, ◌||◌, cond, List, [], ◌∷◌, length, Option, Some, None, Result, Ok, Err, refl, sym, ap, ◌∙◌, arith}
use Rattle.std.specs.Prelude.{◌==◌, count_by}
use Rattle.std.specs.List.{filter, filter_map, find, list_any}
use Rattle.std.specs.Result.{result_ok}
use Rattle.std.proofs.lemmas.Bool.{and_parts, cases_lt, or_cases, or_from, or_parts, or_right}
use Rattle.std.proofs.lemmas.Bool.Decides.{nat_tests}
use Rattle.std.proofs.lemmas.List.Sums.{length-filter}
use Rattle.std.proofs.Math.Nat.{div-mul-le_self, le-div_iff_mul-le}
use Rattle.common_laws.specs.Lists.{In, given}
use Rattle.vhd_layout.specs.Readings.{each_below, some_below}

-- ---- options

pub same_some : {A : Type 0} (x y : A) → Some x ≡ Some y → x ≡ y
same_some {A} x y h = ap (λ (o : Option A). elim o [ None ↦ x | Some z ↦ z ]) h

pub not-given : {A : Type 0} (b : Bool) (x : A) → given b x ≡ None → b ≡ false
not-given true x h = absurd (cc h)
not-given false x h = refl

pub is-given : {A : Type 0} (b : Bool) (x y : A) → given b x ≡ Some y → (b ≡ true) × (x ≡ y)
is-given true x y h = (refl, same_some x y h)
is-given false x y h = absurd (cc h)

pub read-ok : {A E : Type 0} (r : Result A E) (x : A) → result_ok r ≡ Some x → r ≡ Ok x
read-ok (Ok y) x h = ap Ok (same_some y x h)
read-ok (Err e) x h = absurd (cc h)

-- ---- numbers below another

pub each_below-at : (p : ℕ → Bool) (n k : ℕ) → each_below p n ≡ true → k < n → p k ≡ true
unfolding each_below
each_below-at p zero k h less = absurd (omega (arith, less))
each_below-at p (suc n) k h less =
    let parts = and_parts (p n) (each_below p n) h in
    ⊎_elim (λ low. each_below-at p n k parts.1 low) (λ high. let is : k ≡ n = omega (arith, less, high) in ap p is ∙ parts.0) (cases_lt k n)

pub each_below-from : (p : ℕ → Bool) (n : ℕ) → ((k : ℕ) → k < n → p k ≡ true) → each_below p n ≡ true
unfolding each_below
each_below-from p zero all = refl
each_below-from p (suc n) all = rw (all n (omega arith)) (each_below-from p n (λ k less. all k (omega (arith, less))))

pub some_below-at : (p : ℕ → Bool) (n k : ℕ) → some_below p n ≡ false → k < n → p k ≡ false
unfolding some_below
some_below-at p zero k h less = absurd (omega (arith, less))
some_below-at p (suc n) k h less =
    let parts = or_parts (p n) (some_below p n) h in
    ⊎_elim (λ low. some_below-at p n k parts.1 low) (λ high. let is : k ≡ n = omega (arith, less, high) in ap p is ∙ parts.0) (cases_lt k n)

pub some_below-none : (p : ℕ → Bool) (n : ℕ) → ((k : ℕ) → k < n → p k ≡ false) → some_below p n ≡ false
unfolding some_below
some_below-none p zero none = refl
some_below-none p (suc n) none = or_from (p n) (some_below p n) (none n (omega arith)) (some_below-none p n (λ k less. none k (omega (arith, less))))

pub some_below-same : (p q : ℕ → Bool) (n : ℕ) → ((k : ℕ) → k < n → p k ≡ q k) → some_below p n ≡ some_below q n
unfolding some_below
some_below-same p q zero same = refl
some_below-same p q (suc n) same =
    let last : p n ≡ q n = same n (omega arith) in
    let front : some_below p n ≡ some_below q n = some_below-same p q n (λ k less. same k (omega (arith, less))) in
    ap (λ b. b || some_below p n) last ∙ ap (λ b. q n || b) front

-- ---- elements of lists

pub find-same : {A : Type 0} (p q : A → Bool) (xs : List A) → ((x : A) → In x xs → p x ≡ q x) → find p xs ≡ find q xs
find-same p q [] same = refl
find-same p q (x ∷ xs) same =
    ap (λ b. cond b (Some x) (find p xs)) (same x (inl refl)) ∙ ap (λ o. cond (q x) (Some x) o) (find-same p q xs (λ y i. same y (inr i)))

pub filter_map-same : {A B : Type 0} (f g : A → Option B) (xs : List A) → ((x : A) → In x xs → f x ≡ g x) → filter_map f xs ≡ filter_map g xs
filter_map-same f g [] same = refl
filter_map-same f g (x ∷ xs) same = rw (same x (inl refl), filter_map-same f g xs (λ y i. same y (inr i))) refl

-- one of the numbers that are given is b, exactly where one of the elements gives it
pub any-given : {A : Type 0} (f : A → Option ℕ) (xs : List A) (b : ℕ) → list_any (λ c. c == b) (filter_map f xs) ≡ true → (x : A) × In x xs × (f x ≡ Some b)
any-given f [] b h = absurd (cc h)
any-given {A} f (x ∷ xs) b h = by (f x) refl (any-given f xs b)
  where
    later : (x' : A) × In x' xs × (f x' ≡ Some b) → (y : A) × In y (x ∷ xs) × (f y ≡ Some b)
    later r = (r.0, inr r.1, r.2)

    by : (o : Option ℕ) → f x ≡ o → (list_any (λ c. c == b) (filter_map f xs) ≡ true → (x' : A) × In x' xs × (f x' ≡ Some b)) → (y : A) × In y (x ∷ xs) × (f y ≡ Some b)
    by None is rest = let e : list_any (λ c. c == b) (filter_map f xs) ≡ true = rw is at h in later (rest e)
    by (Some c) is rest =
        let e : ((c == b) || list_any (λ d. d == b) (filter_map f xs)) ≡ true = rw is at h in
        ⊎_elim
        (λ (same : (c == b) ≡ true). let n : c ≡ b = grind (arith, nat_tests) in (x, inl refl, is ∙ ap Some n))
        (λ more. later (rest more))
        (or_cases (c == b) (list_any (λ d. d == b) (filter_map f xs)) e)

pub given-any : {A : Type 0} (f : A → Option ℕ) (xs : List A) (x : A) (b : ℕ) → In x xs → f x ≡ Some b → list_any (λ c. c == b) (filter_map f xs) ≡ true
given-any f [] x b i is = absurd i
given-any f (y ∷ xs) x b (inl same) is =
    let e : f y ≡ Some b = ap f (sym same) ∙ is in
    let t : (b == b) ≡ true = grind (arith, nat_tests) in
    rw (e, t) refl
given-any f (y ∷ xs) x b (inr i) is = by (f y) refl (given-any f xs x b i is)
  where
    by : (o : Option ℕ) → f y ≡ o → list_any (λ c. c == b) (filter_map f xs) ≡ true → list_any (λ c. c == b) (filter_map f (y ∷ xs)) ≡ true
    by None e rest = rw e rest
    by (Some c) e rest = rw e (or_right (c == b) (list_any (λ d. d == b) (filter_map f xs)) rest)

more-pass : {A : Type 0} (p q : A → Bool) (xs : List A) → ((x : A) → p x ≡ true → q x ≡ true) → length (filter p xs) ≤ length (filter q xs)
more-pass p q [] more = omega arith
more-pass p q (x ∷ xs) more = by (p x) (q x) (more x) (more-pass p q xs more)
  where
    by : (a b : Bool) → (a ≡ true → b ≡ true) → length (filter p xs) ≤ length (filter q xs) → length (cond a (x ∷ filter p xs) (filter p xs)) ≤ length (cond b (x ∷ filter q xs) (filter q xs))
    by true true h rest = omega (arith, rest)
    by true false h rest = absurd (let e : false ≡ true = h refl in cc e)
    by false true h rest = omega (arith, rest)
    by false false h rest = rest

-- where each element that passes one test passes another, as many do at least
pub count_by-more : {A : Type 0} (p q : A → Bool) (xs : List A) → ((x : A) → p x ≡ true → q x ≡ true) → count_by p xs ≤ count_by q xs
count_by-more p q xs more = let m = more-pass p q xs more in omega (arith, m, length-filter p xs, length-filter q xs)

-- ---- quotients

pub le-div : (a b k : ℕ) → 0 < k → a ≤ b → a / k ≤ b / k
le-div a b k pos le = (le-div_iff_mul-le {k = k} {x = a / k} {y = b} pos).1 (let e = div-mul-le_self a k in omega (arith, e, le))
