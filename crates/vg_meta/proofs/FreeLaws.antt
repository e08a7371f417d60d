-- Free extents: below a count, distinct, and no volume has them.
use Rattle.std.proofs.Common.{◌≡◌, ℕ, zero, suc, ◌+◌, ◌<◌, ◌≤◌, Bool, true, false, eqb, not, List, [], ◌∷◌, length, get_or, drop, drop-cons, add-one, refl, sym, ap, subst, ◌∙◌, arith, ⊎_elim}
use Rattle.std.specs.Prelude.{nat_lt, IsTrue, Result, Ok, Err, is_ok, MatchResult}
use Rattle.std.specs.Ordering.{nat_cmp}
use Rattle.std.specs.List.{list_all, AllByRecursion, IsDistinct}
use Rattle.std.specs.List.Sorted.{IsStrictlyIncreasing, IsBinarySearchResult}
use Rattle.std.proofs.lemmas.List.Sorted.{searched}
use Rattle.std.proofs.lemmas.Bool.{true≢false, eqb-false, ne_eqb, eq-eqb, cases_eq, or_parts, or_from, or_left, or_right, cases_lt, and_parts, and_from, ltb-true, lt-ltb, not-true, not_from_false}
use Rattle.std.proofs.lemmas.List.{get_or_default}
use Rattle.std.proofs.lemmas.List.Elements.{recursion_from_All}
use Rattle.vg_meta.specs.Tables.{extents_in, is_one_of}
use Rattle.vg_meta.specs.Roomy.{RoomyRow, rows_alone}
use Rattle.vg_meta.specs.Changes.{AreFree}
use Rattle.vg_meta.proofs.ExtentLaws.{times, times-append, unused-times, times-unused, one_of_other, one_if}

-- ---- what holds of each element, by how often each stands there

pub all_at : (P : ℕ → Type 0) (e : ℕ) (xs : List ℕ) → AllByRecursion P xs → 0 < times e xs → P e
unfolding times
all_at P e [] all h = absurd (omega arith)
all_at P e (x ∷ xs) all h =
    ⊎_elim (λ same. subst P same all.0) (λ other. all_at P e xs all.1 (omega (arith, one_of_other x e other))) (cases_eq x e)

pub all_from : (P : ℕ → Type 0) (xs : List ℕ) → ((e : ℕ) → 0 < times e xs → P e) → AllByRecursion P xs
unfolding times
all_from P [] h = tt
all_from P (x ∷ xs) h =
    (h x (let one : one_if (eqb x x) ≡ 1 = ap one_if (eq-eqb x x refl) in omega arith), all_from P xs (λ e k. h e (omega arith)))

pub list_all-All : (p : ℕ → Bool) (xs : List ℕ) → list_all p xs ≡ true → AllByRecursion (λ (x : ℕ). p x ≡ true) xs
list_all-All p [] h = tt
list_all-All p (x ∷ xs) h = let k = and_parts (p x) (list_all p xs) h in (k.0, list_all-All p xs k.1)

pub All-list_all : (p : ℕ → Bool) (xs : List ℕ) → AllByRecursion (λ (x : ℕ). p x ≡ true) xs → list_all p xs ≡ true
All-list_all p [] all = refl
All-list_all p (x ∷ xs) all = and_from (p x) (list_all p xs) all.0 (All-list_all p xs all.1)

-- ---- distinct extents

apart_from : (x : ℕ) (ys : List ℕ) → is_one_of ys x ≡ false → AllByRecursion (λ (y : ℕ). eqb x y ≡ false) ys
apart_from x [] h = tt
apart_from x (y ∷ ys) h =
    let p = or_parts (eqb y x) (is_one_of ys x) h in
    (ne_eqb x y (λ e. eqb-false y x p.0 (sym e)), apart_from x ys p.1)

unused_from : (x : ℕ) (ys : List ℕ) → AllByRecursion (λ (y : ℕ). eqb x y ≡ false) ys → is_one_of ys x ≡ false
unused_from x [] all = refl
unused_from x (y ∷ ys) all = or_from (eqb y x) (is_one_of ys x) (ne_eqb y x (λ e. eqb-false x y all.0 (sym e))) (unused_from x ys all.1)

head_at : (xs : List ℕ) (i x : ℕ) → i < length xs → x ≡ get_or xs i 0 → drop i xs ≡ x ∷ drop (i + 1) xs
head_at xs i x lt is = rw add-one (drop-cons xs i 0 lt ∙ ap (λ (y : ℕ). y ∷ drop (suc i) xs) (sym is))

distinct-drop : (xs : List ℕ) (i : ℕ) → IsDistinct eqb xs → IsDistinct eqb (drop i xs)
unfolding IsDistinct
distinct-drop xs zero h = h
distinct-drop [] (suc i) h = h
distinct-drop (x ∷ xs) (suc i) h = distinct-drop xs i h.1

distinct_parts : (x : ℕ) (ys : List ℕ) → IsDistinct eqb (x ∷ ys) → AllByRecursion (λ (y : ℕ). eqb x y ≡ false) ys
unfolding IsDistinct
distinct_parts x ys h = h.0

distinct_cons : (x : ℕ) (ys : List ℕ) → AllByRecursion (λ (y : ℕ). eqb x y ≡ false) ys → IsDistinct eqb ys → IsDistinct eqb (x ∷ ys)
unfolding IsDistinct
distinct_cons x ys all h = (all, h)

-- an extent that stands again
pub found_twice : (xs : List ℕ) (i x : ℕ) → i < length xs → x ≡ get_or xs i 0 → is_one_of (drop (i + 1) xs) x ≡ true → IsDistinct eqb xs → ⊥
found_twice xs i x lt is found h =
    let tail : IsDistinct eqb (x ∷ drop (i + 1) xs) = subst (λ (l : List ℕ). IsDistinct eqb l) (head_at xs i x lt is) (distinct-drop xs i h) in
    true≢false (sym found ∙ unused_from x (drop (i + 1) xs) (distinct_parts x (drop (i + 1) xs) tail))

-- one that does not
pub distinct_more : (xs : List ℕ) (i x : ℕ) → i < length xs → x ≡ get_or xs i 0 → is_one_of (drop (i + 1) xs) x ≡ false
    → (IsDistinct eqb (drop i xs) → IsDistinct eqb xs) → IsDistinct eqb (drop (i + 1) xs) → IsDistinct eqb xs
distinct_more xs i x lt is none so_far h =
    so_far (subst (λ (l : List ℕ). IsDistinct eqb l) (sym (head_at xs i x lt is))
    (distinct_cons x (drop (i + 1) xs) (apart_from x (drop (i + 1) xs) none) h))

pub distinct_end : (xs : List ℕ) (i : ℕ) → length xs ≤ i → (IsDistinct eqb (drop i xs) → IsDistinct eqb xs) → IsDistinct eqb xs
unfolding IsDistinct
distinct_end xs i le so_far = so_far (subst (λ (l : List ℕ). IsDistinct eqb l) (sym (gone xs i le)) tt)
  where
    gone : (xs : List ℕ) (i : ℕ) → length xs ≤ i → drop i xs ≡ []
    gone [] zero h = refl
    gone [] (suc i) h = refl
    gone (x ∷ xs) zero h = absurd (omega arith)
    gone (x ∷ xs) (suc i) h = gone xs i (omega arith)

-- rising extents are distinct
pub rises : (xs : List ℕ) → IsStrictlyIncreasing xs → (i j : ℕ) → i < j → j < length xs → get_or xs i 0 < get_or xs j 0
rises xs h i zero lt within = absurd (omega arith)
rises xs h i (suc j) lt within =
    let next : get_or xs j 0 < get_or xs (j + 1) 0 = h j (omega arith) in
    let step : get_or xs j 0 < get_or xs (suc j) 0 = rw (sym (add-one j)) next in
    ⊎_elim (λ same. subst (λ (k : ℕ). get_or xs k 0 < get_or xs (suc j) 0) (sym same) step)
    (λ other. let before = rises xs h i j (omega arith) (omega arith) in omega arith)
    (cases_eq i j)

rising_tail : (x : ℕ) (xs : List ℕ) → IsStrictlyIncreasing (x ∷ xs) → IsStrictlyIncreasing xs
rising_tail x xs h k lt = rises (x ∷ xs) h (suc k) (suc (k + 1)) (omega arith) (omega arith)

rising_front : (x : ℕ) (xs : List ℕ) → IsStrictlyIncreasing (x ∷ xs) → AllByRecursion (λ (y : ℕ). x < y) xs
rising_front x xs h = recursion_from_All (λ (y : ℕ). x < y) xs
    (λ k d lt. rw (get_or_default xs k d 0 lt) (rises (x ∷ xs) h 0 (suc k) (omega arith) (omega arith)))

pub rising_distinct : (xs : List ℕ) → IsStrictlyIncreasing xs → IsDistinct eqb xs
unfolding IsDistinct
rising_distinct [] h = tt
rising_distinct (x ∷ xs) h = (weaken xs (rising_front x xs h), rising_distinct xs (rising_tail x xs h))
  where
    weaken : (ys : List ℕ) → AllByRecursion (λ (y : ℕ). x < y) ys → AllByRecursion (λ (y : ℕ). eqb x y ≡ false) ys
    weaken [] all = tt
    weaken (y ∷ ys) all = (ne_eqb x y (λ e. let lt : x < y = all.0 in absurd (omega arith)), weaken ys all.1)

-- ---- extents that no volume has

abbrev pub shares_none_of : List ℕ → List RoomyRow → Bool
shares_none_of es hs = list_all (λ (v : RoomyRow). list_all (λ (e : ℕ). not (is_one_of es e)) v.row.extents) hs

none_shared : (es : List ℕ) (hs : List RoomyRow) → shares_none_of es hs ≡ true → (e : ℕ) → 0 < times e (extents_in (rows_alone hs)) → is_one_of es e ≡ false
unfolding times
none_shared es [] h e k = absurd (omega arith)
none_shared es (v ∷ hs) h e k =
    let p = and_parts (list_all (λ (e : ℕ). not (is_one_of es e)) v.row.extents) (shares_none_of es hs) h in
    ⊎_elim
    (λ none. none_shared es hs p.1 e (omega (arith, times-append e v.row.extents (extents_in (rows_alone hs)))))
    (λ some. not-true (is_one_of es e) (all_at (λ (e : ℕ). not (is_one_of es e) ≡ true) e v.row.extents
    (list_all-All (λ (e : ℕ). not (is_one_of es e)) v.row.extents p.0) (omega arith)))
    (cases_eq (times e v.row.extents) 0)

shared_none : (es : List ℕ) (hs : List RoomyRow) → ((e : ℕ) → 0 < times e (extents_in (rows_alone hs)) → is_one_of es e ≡ false) → shares_none_of es hs ≡ true
shared_none es [] h = refl
shared_none es (v ∷ hs) h =
    and_from (list_all (λ (e : ℕ). not (is_one_of es e)) v.row.extents) (shares_none_of es hs)
    (All-list_all (λ (e : ℕ). not (is_one_of es e)) v.row.extents
    (all_from (λ (e : ℕ). not (is_one_of es e) ≡ true) v.row.extents
    (λ e k. not_from_false (is_one_of es e) (h e (omega (arith, times-append e v.row.extents (extents_in (rows_alone hs))))))))
    (shared_none es hs (λ e k. h e (omega (arith, times-append e v.row.extents (extents_in (rows_alone hs))))))

-- both ways round
pub unused_from_none : (es : List ℕ) (hs : List RoomyRow) → shares_none_of es hs ≡ true
    → AllByRecursion (λ (e : ℕ). is_one_of (extents_in (rows_alone hs)) e ≡ false) es
unused_from_none es hs h =
    all_from (λ (e : ℕ). is_one_of (extents_in (rows_alone hs)) e ≡ false) es
    (λ e k. ⊎_elim (λ none. times-unused e (extents_in (rows_alone hs)) none)
    (λ some. let gone : times e es ≡ 0 = unused-times e es (none_shared es hs h e (omega arith)) in absurd (omega arith))
    (cases_eq (times e (extents_in (rows_alone hs))) 0))

pub none_from_unused : (es : List ℕ) (hs : List RoomyRow) → AllByRecursion (λ (e : ℕ). is_one_of (extents_in (rows_alone hs)) e ≡ false) es
    → shares_none_of es hs ≡ true
none_from_unused es hs all =
    shared_none es hs
    (λ e k. ⊎_elim (λ none. times-unused e es none)
    (λ some. let gone : times e (extents_in (rows_alone hs)) ≡ 0 =
    unused-times e (extents_in (rows_alone hs)) (all_at (λ (e : ℕ). is_one_of (extents_in (rows_alone hs)) e ≡ false) e es all (omega arith)) in absurd (omega arith))
    (cases_eq (times e es) 0))

-- ---- all three

pub free_from : (count : ℕ) (hs : List RoomyRow) (es : List ℕ) → list_all (λ (e : ℕ). nat_lt e count) es ≡ true → IsDistinct eqb es
    → shares_none_of es hs ≡ true → AreFree count (rows_alone hs) es
free_from count hs es below distinct none = record {
  below = all_from (λ (e : ℕ). e < count) es (λ e k. ltb-true e count (all_at (λ (e : ℕ). nat_lt e count ≡ true) e es (list_all-All (λ (e : ℕ). nat_lt e count) es below) k));
  unused = unused_from_none es hs none;
  distinct = distinct;
}

pub below_from : (count : ℕ) (es : List ℕ) → AllByRecursion (λ (e : ℕ). e < count) es → list_all (λ (e : ℕ). nat_lt e count) es ≡ true
below_from count es all =
    All-list_all (λ (e : ℕ). nat_lt e count) es (all_from (λ (e : ℕ). nat_lt e count ≡ true) es (λ e k. lt-ltb e count (all_at (λ (e : ℕ). e < count) e es all k)))

-- membership by places
one_at : (xs : List ℕ) (i x : ℕ) → i < length xs → get_or xs i 0 ≡ x → true ≡ is_one_of xs x
one_at [] i x lt is = absurd (omega arith)
one_at (y ∷ xs) zero x lt is = sym (or_left (eqb y x) (is_one_of xs x) (eq-eqb y x is))
one_at (y ∷ xs) (suc i) x lt is = sym (or_right (eqb y x) (is_one_of xs x) (sym (one_at xs i x (omega arith) is)))

none_at : (xs : List ℕ) (x : ℕ) → ((k : ℕ) → k < length xs → get_or xs k 0 ≡ x → ⊥) → false ≡ is_one_of xs x
none_at [] x h = refl
none_at (y ∷ xs) x h =
    sym (or_from (eqb y x) (is_one_of xs x) (ne_eqb y x (h 0 (omega arith)))
    (sym (none_at xs x (λ k lt. h (suc k) (omega arith)))))

-- what `binary_search` finds among rising extents
pub found_by_halves : (xs : List ℕ) (x : ℕ) (r : Result ℕ ℕ) (b : Bool) → IsStrictlyIncreasing xs → IsBinarySearchResult (λ (y : ℕ). nat_cmp y x) xs r → b ≡ is_ok r
    → b ≡ is_one_of xs x
found_by_halves xs x r b h found is = is ∙ same_test r (searched xs x r found in_order)
  where
    in_order : (i j : ℕ) → i ≤ j → j < length xs → get_or xs i 0 ≤ get_or xs j 0
    in_order i j le within = ⊎_elim (λ e. subst (λ (k : ℕ). get_or xs i 0 ≤ get_or xs k 0) e (omega arith)) (λ other. let lt = rises xs h i j (omega arith) within in omega arith) (cases_eq i j)

    same_test : (r : Result ℕ ℕ) → MatchResult r (λ (i : ℕ). (i < length xs) × (get_or xs i 0 ≡ x)) (λ (i : ℕ). (i ≤ length xs) × ((k : ℕ) → k < i → get_or xs k 0 < x) × ((k : ℕ) → i ≤ k → k < length xs → x < get_or xs k 0)) → is_ok r ≡ is_one_of xs x
    same_test (Ok i) m = one_at xs i x m.0 m.1
    same_test (Err i) m = none_at xs x
        (λ k within. ⊎_elim (λ low. let lt : get_or xs k 0 < x = m.1 k low in (λ e. absurd (omega arith)))
        (λ high. let gt : x < get_or xs k 0 = m.2 k high within in (λ e. absurd (omega arith))) (cases_lt k i))

pub free_ways : (count : ℕ) (hs : List RoomyRow) (es : List ℕ) (b : Bool) → list_all (λ (e : ℕ). nat_lt e count) es ≡ true → IsDistinct eqb es
    → b ≡ shares_none_of es hs → (IsTrue b → AreFree count (rows_alone hs) es) × (AreFree count (rows_alone hs) es → IsTrue b)
free_ways count hs es b below distinct is =
    (λ h. free_from count hs es below distinct (sym is ∙ h), λ f. is ∙ none_from_unused es hs f.unused)
