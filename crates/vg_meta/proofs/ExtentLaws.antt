-- How often an extent stands in a list, by which distinct extents and free ones are told.
use Rattle.std.proofs.Common.{◌≡◌, ◌≢◌, ℕ, zero, suc, ◌+◌, ◌<◌, ◌≤◌, Bool, true, false, cond, ◌==◌, List, [], ◌∷◌, ◌++◌, take, Option, Some, refl, sym, ap, subst, ◌∙◌, arith}
use Rattle.std.specs.List.{AllByRecursion, IsDistinct}
use Rattle.std.specs.Prelude.{nat_eq, slice_get, ◌⊎◌}
use Rattle.std.proofs.Common.{inl, inr, ⊎_elim}
use Rattle.std.specs.Ordering.{is_lt}
use Rattle.std.proofs.lemmas.Bool.{true≢false, eq-eqb, ne_eqb, eqb-false, cases_eq, cond_both, or_parts, or_from}
use Rattle.sm_base.specs.declared.names.Name.{Name}
use Rattle.sm_base.specs.Names.{name_cmp}
use Rattle.vg_meta.specs.Tables.{Row, row_of, name_eq, extents_in, extents_of, is_one_of}
use Rattle.vg_meta.specs.Changes.{put, without, with_row}
use Rattle.vg_meta.proofs.NameLaws.{name_eq-true, name_eq-other}

abbrev pub one_if : Bool → ℕ
one_if true = 1
one_if false = 0

-- how often a number stands in a list
unfoldable pub times : ℕ → List ℕ → ℕ
times e [] = 0
times e (x ∷ xs) = one_if (x == e) + times e xs

pub times-append : (e : ℕ) (xs ys : List ℕ) → times e (xs ++ ys) ≡ times e xs + times e ys
unfolding times
times-append e [] ys = omega arith
times-append e (x ∷ xs) ys = omega (arith, times-append e xs ys)

pub times-take : (e k : ℕ) (xs : List ℕ) → times e (take k xs) ≤ times e xs
unfolding times
times-take e zero xs = omega arith
times-take e (suc k) [] = omega arith
times-take e (suc k) (x ∷ xs) = omega (arith, times-take e k xs)

pub one_of_same : (x : ℕ) → one_if (x == x) ≡ 1
one_of_same x = ap one_if (eq-eqb x x refl)

pub one_of_other : (x e : ℕ) → x ≢ e → one_if (x == e) ≡ 0
one_of_other x e other = ap one_if (ne_eqb x e other)

-- ---- membership

pub unused-times : (e : ℕ) (xs : List ℕ) → is_one_of xs e ≡ false → times e xs ≡ 0
unfolding times
unused-times e [] h = refl
unused-times e (x ∷ xs) h =
    let p = or_parts (x == e) (is_one_of xs e) h in
    omega (arith, one_of_other x e (eqb-false x e p.0), unused-times e xs p.1)

pub times-unused : (e : ℕ) (xs : List ℕ) → times e xs ≡ 0 → is_one_of xs e ≡ false
unfolding times
times-unused e [] h = refl
times-unused e (x ∷ xs) h =
    or_from (x == e) (is_one_of xs e)
    (ne_eqb x e (λ same. let one : one_if (x == e) ≡ 1 = ap one_if (eq-eqb x e same) in absurd (omega arith)))
    (times-unused e xs (omega arith))

pub used-times : (e : ℕ) (xs : List ℕ) → is_one_of xs e ≡ true → 0 < times e xs
used-times e xs h = go (cases_eq (times e xs) 0)
  where
    go : (times e xs ≡ 0) ⊎ (times e xs ≢ 0) → 0 < times e xs
    go (inl none) = absurd (true≢false (sym h ∙ times-unused e xs none))
    go (inr some) = omega arith

-- ---- each below, and each once

pub below_times : (count e : ℕ) (xs : List ℕ) → AllByRecursion (λ (x : ℕ). x < count) xs → 0 < times e xs → e < count
unfolding times
below_times count e [] all h = absurd (omega arith)
below_times count e (x ∷ xs) all h =
    ⊎_elim (λ same. let low : x < count = all.0 in omega arith)
    (λ other. below_times count e xs all.1 (omega (arith, one_of_other x e other)))
    (cases_eq x e)

pub times_below : (count : ℕ) (xs : List ℕ) → ((e : ℕ) → 0 < times e xs → e < count) → AllByRecursion (λ (x : ℕ). x < count) xs
unfolding times
times_below count [] h = tt
times_below count (x ∷ xs) h = (h x (omega (arith, one_of_same x)), times_below count xs (λ e k. h e (omega arith)))

-- a list with no number twice, by how often each stands there
pub distinct-times : (e : ℕ) (xs : List ℕ) → IsDistinct nat_eq xs → times e xs ≤ 1
unfolding times IsDistinct
distinct-times e [] h = omega arith
distinct-times e (x ∷ xs) h =
    ⊎_elim (λ same. let none : times e xs ≡ 0 = subst (λ (y : ℕ). times y xs ≡ 0) same (apart-times x xs h.0) in
    let one : one_if (x == e) ≡ 1 = ap one_if (eq-eqb x e same) in omega arith)
    (λ other. omega (arith, one_of_other x e other, distinct-times e xs h.1))
    (cases_eq x e)
  where
    apart-times : (x : ℕ) (ys : List ℕ) → AllByRecursion (λ (y : ℕ). nat_eq x y ≡ false) ys → times x ys ≡ 0
    apart-times x [] all = refl
    apart-times x (y ∷ ys) all = omega (arith, one_of_other y x (λ k. eqb-false x y all.0 (sym k)), apart-times x ys all.1)

pub times-distinct : (xs : List ℕ) → ((e : ℕ) → times e xs ≤ 1) → IsDistinct nat_eq xs
unfolding times IsDistinct
times-distinct [] h = tt
times-distinct (x ∷ xs) h =
    (times-apart x xs (omega (arith, h x, one_of_same x)), times-distinct xs (λ e. omega (arith, h e)))
  where
    times-apart : (x : ℕ) (ys : List ℕ) → times x ys ≡ 0 → AllByRecursion (λ (y : ℕ). nat_eq x y ≡ false) ys
    times-apart x [] h = tt
    times-apart x (y ∷ ys) h = (
      ne_eqb x y (λ same. let one : one_if (y == x) ≡ 1 = ap one_if (eq-eqb y x (sym same)) in absurd (omega arith)),
      times-apart x ys (omega arith),
    )

-- ---- the extents of all volumes

pub times-put : (e : ℕ) (rs : List Row) (r : Row) → times e (extents_in (put r rs)) ≡ times e r.extents + times e (extents_in rs)
unfolding put
times-put e [] r = times-append e r.extents []
times-put e (s ∷ rs) r =
    cond_both (is_lt (name_cmp r.name s.name)) (r ∷ s ∷ rs) (s ∷ put r rs)
    (λ (l : List Row). times e (extents_in l) ≡ times e r.extents + times e (s.extents ++ extents_in rs))
    (λ _. times-append e r.extents (s.extents ++ extents_in rs))
    (λ _. omega (arith, times-append e s.extents (extents_in (put r rs)), times-append e s.extents (extents_in rs), times-put e rs r))

some_parts : (b : Bool) (s r : Row) (x : Option Row) → cond b (Some s) x ≡ Some r → (b ≡ true) × (s ≡ r) ⊎ (b ≡ false) × (x ≡ Some r)
some_parts true s r x h = inl (refl, cc)
some_parts false s r x h = inr (refl, h)

pub times-without : (e : ℕ) (rs : List Row) (n : Name) (r : Row) → row_of rs n ≡ Some r
    → times e (extents_in rs) ≡ times e r.extents + times e (extents_in (without n rs))
unfolding row_of without
times-without e [] n r h = absurd cc
times-without e (s ∷ rs) n r h =
    ⊎_elim (λ p. rw (p.0, ← p.1) (times-append e s.extents (extents_in rs)))
    (λ p. rw p.0 (omega (arith, times-append e s.extents (extents_in rs), times-append e s.extents (extents_in (without n rs)), times-without e rs n r p.1)))
    (some_parts (name_eq s.name n) s r (row_of rs n) h)

pub times-with_row : (e : ℕ) (rs : List Row) (n : Name) (f : Row → Row) (r : Row) → row_of rs n ≡ Some r
    → times e (extents_in (with_row n f rs)) + times e r.extents ≡ times e (f r).extents + times e (extents_in rs)
unfolding row_of with_row
times-with_row e [] n f r h = absurd cc
times-with_row e (s ∷ rs) n f r h =
    ⊎_elim (λ p. rw (p.0, ← p.1) (omega (arith, times-append e (f s).extents (extents_in rs), times-append e s.extents (extents_in rs))))
    (λ p. rw p.0 (omega (arith, times-append e s.extents (extents_in (with_row n f rs)), times-append e s.extents (extents_in rs), times-with_row e rs n f r p.1)))
    (some_parts (name_eq s.name n) s r (row_of rs n) h)

-- the extents of one volume are among all
pub times-row : (e : ℕ) (rs : List Row) (n : Name) → times e (extents_of (row_of rs n)) ≤ times e (extents_in rs)
unfolding row_of times
times-row e [] n = omega arith
times-row e (s ∷ rs) n =
    cond_both (name_eq s.name n) (Some s) (row_of rs n) (λ (o : Option Row). times e (extents_of o) ≤ times e (s.extents ++ extents_in rs))
    (λ _. omega (arith, times-append e s.extents (extents_in rs)))
    (λ _. omega (arith, times-append e s.extents (extents_in rs), times-row e rs n))

-- the extents of two volumes are among all
pub times-two_rows : (e : ℕ) (rs : List Row) (m n : Name) → m ≢ n
    → times e (extents_of (row_of rs m)) + times e (extents_of (row_of rs n)) ≤ times e (extents_in rs)
unfolding row_of times
times-two_rows e [] m n other = omega arith
times-two_rows e (s ∷ rs) m n other =
    cond_both (name_eq s.name m) (Some s) (row_of rs m)
    (λ (o : Option Row). times e (extents_of o) + times e (extents_of (row_of (s ∷ rs) n)) ≤ times e (s.extents ++ extents_in rs))
    (λ is_m. rw (name_eq-other s.name n (λ is_n. other (sym (name_eq-true s.name m is_m) ∙ is_n)))
    (omega (arith, times-append e s.extents (extents_in rs), times-row e rs n)))
    (λ _. cond_both (name_eq s.name n) (Some s) (row_of rs n)
    (λ (o : Option Row). times e (extents_of (row_of rs m)) + times e (extents_of o) ≤ times e (s.extents ++ extents_in rs))
    (λ _. omega (arith, times-append e s.extents (extents_in rs), times-row e rs m))
    (λ _. omega (arith, times-append e s.extents (extents_in rs), times-two_rows e rs m n other)))

-- ---- places

pub slice_get-times : (e i : ℕ) (xs : List ℕ) → slice_get xs i ≡ Some e → 0 < times e xs
unfolding times
slice_get-times e i [] h = absurd cc
slice_get-times e zero (x ∷ xs) h =
    let same : x ≡ e = cc in
    let one : one_if (x == e) ≡ 1 = ap one_if (eq-eqb x e same) in omega arith
slice_get-times e (suc i) (x ∷ xs) h = omega (arith, slice_get-times e i xs h)

pub one_place : (e i j : ℕ) (xs : List ℕ) → times e xs ≤ 1 → slice_get xs i ≡ Some e → slice_get xs j ≡ Some e → i ≡ j
unfolding times
one_place e i j [] once h k = absurd cc
one_place e zero zero (x ∷ xs) once h k = refl
one_place e zero (suc j) (x ∷ xs) once h k =
    let same : x ≡ e = cc in
    let one : one_if (x == e) ≡ 1 = ap one_if (eq-eqb x e same) in
    absurd (omega (arith, slice_get-times e j xs k))
one_place e (suc i) zero (x ∷ xs) once h k =
    let same : x ≡ e = cc in
    let one : one_if (x == e) ≡ 1 = ap one_if (eq-eqb x e same) in
    absurd (omega (arith, slice_get-times e i xs h))
one_place e (suc i) (suc j) (x ∷ xs) once h k = ap suc (one_place e i j xs (omega arith) h k)

-- ---- what holds of each element

pub All-weaken : {X : Type 0} (P Q : X → Type 0) (xs : List X) → ((x : X) → P x → Q x) → AllByRecursion P xs → AllByRecursion Q xs
All-weaken P Q [] f all = tt
All-weaken P Q (x ∷ xs) f all = (f x all.0, All-weaken P Q xs f all.1)

-- no extent stands twice, and each is below the count
pub record Once (count : ℕ) (xs : List ℕ) : Type 0 where
  pub once : (e : ℕ) → times e xs ≤ 1
  pub below : (e : ℕ) → 0 < times e xs → e < count

-- those that none of a list is
pub apart-times : (e : ℕ) (us es : List ℕ) → AllByRecursion (λ (x : ℕ). is_one_of us x ≡ false) es → 0 < times e es → times e us ≡ 0
unfolding times
apart-times e us [] all h = absurd (omega arith)
apart-times e us (x ∷ es) all h =
    ⊎_elim (λ same. subst (λ (y : ℕ). times y us ≡ 0) same (unused-times x us all.0))
    (λ other. apart-times e us es all.1 (omega (arith, one_of_other x e other)))
    (cases_eq x e)

-- free extents beside those that are used
pub free_once : (e : ℕ) (us es : List ℕ) → AllByRecursion (λ (x : ℕ). is_one_of us x ≡ false) es → times e es ≤ 1 → times e us ≤ 1
    → times e es + times e us ≤ 1
free_once e us es all one once =
    ⊎_elim (λ none. omega arith) (λ some. let apart = apart-times e us es all (omega arith) in omega arith) (cases_eq (times e es) 0)

pub times-cons : (e x : ℕ) (xs : List ℕ) → times e (x ∷ xs) ≤ 1 + times e xs
unfolding times
times-cons e x xs = ⊎_elim (λ same. let one : one_if (x == e) ≡ 1 = ap one_if (eq-eqb x e same) in omega arith) (λ other. omega (arith, one_of_other x e other)) (cases_eq x e)

pub times-first : (e x : ℕ) (xs : List ℕ) → x ≡ e → 0 < times e (x ∷ xs)
unfolding times
times-first e x xs same = let one : one_if (x == e) ≡ 1 = ap one_if (eq-eqb x e same) in omega arith
