-- Lists of which some elements are changed, and what filters and look-ups find there.
use Rattle.std.proofs.Common.{◌≡◌, ℕ, zero, suc, ◌+◌, ◌<◌, ◌≤◌, Bool, true, false, cond, ◌||◌, ◌⊎◌, List, [], ◌∷◌, map, length, Some, refl, sym, ap, ◌∙◌, inl, inr, arith}
use Rattle.std.specs.List.{filter, find, list_any}
use Rattle.std.specs.Option.{option_map}
use Rattle.common_laws.specs.Lists.{In, when, numbers}

-- a key that f keeps is kept
pub when-key : {A B : Type 0} (k : A → B) (f : A → A) → ((y : A) → k (f y) ≡ k y) → (c : Bool) (y : A) → k (when c f y) ≡ k y
when-key k f h true y = h y
when-key k f h false y = refl

-- looking for a key that is kept
found_case : {A : Type 0} (t : A → Bool) (g : A → A) (y : A) (ys : List A) (b c : Bool) → c ≡ b → find t (map g ys) ≡ option_map g (find t ys) → cond c (Some (g y)) (find t (map g ys)) ≡ option_map g (cond b (Some y) (find t ys))
found_case t g y ys true true e ih = refl
found_case t g y ys false false e ih = ih
found_case t g y ys true false e ih = cc
found_case t g y ys false true e ih = cc

pub find-map : {A : Type 0} (t : A → Bool) (g : A → A) → ((y : A) → t (g y) ≡ t y) → (xs : List A) → find t (map g xs) ≡ option_map g (find t xs)
find-map t g h [] = refl
find-map t g h (y ∷ ys) = found_case t g y ys (t y) (t (g y)) (h y) (find-map t g h ys)

-- looking among those that pass, where those that do not are not looked for
pub find-filter : {A : Type 0} (test keep : A → Bool) (xs : List A) → ((x : A) → In x xs → keep x ≡ false → test x ≡ false) → find test (filter keep xs) ≡ find test xs
find-filter test keep [] none = refl
find-filter test keep (x ∷ xs) none = by (keep x) refl (find-filter test keep xs (λ y i. none y (inr i)))
  where
    by : (b : Bool) → keep x ≡ b → find test (filter keep xs) ≡ find test xs → find test (cond b (x ∷ filter keep xs) (filter keep xs)) ≡ find test (x ∷ xs)
    by true is rest = ap (λ o. cond (test x) (Some x) o) rest
    by false is rest = rest ∙ sym (ap (λ b. cond b (Some x) (find test xs)) (none x (inl refl) is))

-- a filter that passes less after a change
le_case : {A : Type 0} (t : A → Bool) (g : A → A) (y : A) (ys : List A) (b c : Bool) → (c ≡ true → b ≡ true) → length (filter t (map g ys)) ≤ length (filter t ys) → length (cond c (g y ∷ filter t (map g ys)) (filter t (map g ys))) ≤ length (cond b (y ∷ filter t ys) (filter t ys))
le_case t g y ys true true e ih = omega arith
le_case t g y ys true false e ih = omega arith
le_case t g y ys false true e ih = let r : false ≡ true = e refl in cc
le_case t g y ys false false e ih = ih

pub filter-map_le : {A : Type 0} (t : A → Bool) (g : A → A) → (xs : List A) → ((y : A) → In y xs → t (g y) ≡ true → t y ≡ true) → length (filter t (map g xs)) ≤ length (filter t xs)
filter-map_le t g [] h = omega arith
filter-map_le t g (y ∷ ys) h = le_case t g y ys (t y) (t (g y)) (h y (inl refl)) (filter-map_le t g ys (λ z k. h z (inr k)))

less_case : {A : Type 0} (t : A → Bool) (g : A → A) (y : A) (ys : List A) (b c : Bool) → (c ≡ true → b ≡ true) → length (filter t (map g ys)) < length (filter t ys) → length (cond c (g y ∷ filter t (map g ys)) (filter t (map g ys))) < length (cond b (y ∷ filter t ys) (filter t ys))
less_case t g y ys true true e ih = omega arith
less_case t g y ys true false e ih = omega arith
less_case t g y ys false true e ih = let r : false ≡ true = e refl in cc
less_case t g y ys false false e ih = ih

here_case : {A : Type 0} (t : A → Bool) (g : A → A) (y : A) (ys : List A) (b c : Bool) → b ≡ true → c ≡ false → length (filter t (map g ys)) ≤ length (filter t ys) → length (cond c (g y ∷ filter t (map g ys)) (filter t (map g ys))) < length (cond b (y ∷ filter t ys) (filter t ys))
here_case t g y ys true true p q ih = cc
here_case t g y ys true false p q ih = omega arith
here_case t g y ys false c p q ih = cc

pub filter-map_less : {A : Type 0} (t : A → Bool) (g : A → A) (xs : List A) (x : A) → In x xs → t x ≡ true → t (g x) ≡ false → ((y : A) → In y xs → t (g y) ≡ true → t y ≡ true) → length (filter t (map g xs)) < length (filter t xs)
filter-map_less t g [] x k p q h = absurd k
filter-map_less t g (y ∷ ys) x (inl e) p q h = here_case t g y ys (t y) (t (g y)) (ap t (sym e) ∙ p) (ap (λ z. t (g z)) (sym e) ∙ q) (filter-map_le t g ys (λ z l. h z (inr l)))
filter-map_less t g (y ∷ ys) x (inr k) p q h = less_case t g y ys (t y) (t (g y)) (h y (inl refl)) (filter-map_less t g ys x k p q (λ z l. h z (inr l)))

-- a filter is no longer, and shorter where an element does not pass
shorter_case : {A : Type 0} (t : A → Bool) (y : A) (ys : List A) (b : Bool) → length (filter t ys) ≤ length ys → length (cond b (y ∷ filter t ys) (filter t ys)) ≤ suc (length ys)
shorter_case t y ys true ih = omega arith
shorter_case t y ys false ih = omega arith

pub filter_le : {A : Type 0} (t : A → Bool) (xs : List A) → length (filter t xs) ≤ length xs
filter_le t [] = omega arith
filter_le t (y ∷ ys) = shorter_case t y ys (t y) (filter_le t ys)

out_case : {A : Type 0} (t : A → Bool) (y : A) (ys : List A) (b : Bool) → b ≡ false → length (filter t ys) ≤ length ys → length (cond b (y ∷ filter t ys) (filter t ys)) < suc (length ys)
out_case t y ys true e ih = cc
out_case t y ys false e ih = omega arith

deep_case : {A : Type 0} (t : A → Bool) (y : A) (ys : List A) (b : Bool) → length (filter t ys) < length ys → length (cond b (y ∷ filter t ys) (filter t ys)) < suc (length ys)
deep_case t y ys true ih = omega arith
deep_case t y ys false ih = omega arith

pub filter_less : {A : Type 0} (t : A → Bool) (xs : List A) (x : A) → In x xs → t x ≡ false → length (filter t xs) < length xs
filter_less t [] x k e = absurd k
filter_less t (y ∷ ys) x (inl q) e = out_case t y ys (t y) (ap t (sym q) ∙ e) (filter_le t ys)
filter_less t (y ∷ ys) x (inr k) e = deep_case t y ys (t y) (filter_less t ys x k e)

-- an element that passes makes the test of any true
any_case : {A : Type 0} (t : A → Bool) (ys : List A) (b : Bool) → (b ≡ true) ⊎ (list_any t ys ≡ true) → b || list_any t ys ≡ true
any_case t ys true h = refl
any_case t ys false (inl e) = cc
any_case t ys false (inr e) = e

pub list_any-some : {A : Type 0} (t : A → Bool) (xs : List A) (x : A) → In x xs → t x ≡ true → list_any t xs ≡ true
list_any-some t [] x k e = absurd k
list_any-some t (y ∷ ys) x (inl q) e = any_case t ys (t y) (inl (ap t (sym q) ∙ e))
list_any-some t (y ∷ ys) x (inr k) e = any_case t ys (t y) (inr (list_any-some t ys x k e))

-- numbers from one on
pub in_numbers : (a n b : ℕ) → In b (numbers a n) → (a ≤ b) × (b < a + n)
unfolding numbers
in_numbers a zero b h = absurd h
in_numbers a (suc n) b (inl e) = (omega arith, omega arith)
in_numbers a (suc n) b (inr h) = let r : (a + 1 ≤ b) × (b < a + 1 + n) = in_numbers (a + 1) n b h in (omega arith, omega arith)
