-- Extents that were met while a text is read.
use Rattle.std.proofs.Common.{◌≡◌, ◌≢◌, ℕ, zero, suc, ◌+◌, ◌<◌, ◌≤◌, Bool, true, false, not, ◌&&◌, ◌||◌, ltb, eqb, List, [], ◌∷◌, ◌++◌, length, get_or, take, drop, set, drop-cons, add-one, refl, sym, ap, subst, ◌∙◌, append_assoc, arith, ⊎_elim, inl, inr}
use Rattle.std.specs.Prelude.{◌⊎◌}
use Rattle.std.proofs.lemmas.List.{append-nil, length-set, get_or-set_same, get_or-set_other, take_all, drop_all}
use Rattle.std.proofs.lemmas.Bool.{cases_eq, lt-ltb, le-ltb, ltb-true, eq-eqb, ne_eqb, or_left, or_right, or_from, and_parts, and_from, and_left, and_right, not-true, not_from_false, not_from_true}
use Rattle.vg_meta.specs.Tables.{is_one_of}
use Rattle.vg_meta.specs.Taken.{IsMarked, are_new}
use Rattle.vg_meta.proofs.ExtentLaws.{times, times-append, Once, unused-times, times-unused, one_of_same, one_of_other, times-cons}

-- ---- membership behind one more

one_of-last : (us : List ℕ) (x : ℕ) → is_one_of (us ++ x ∷ []) x ≡ true
one_of-last [] x = or_left (eqb x x) false (eq-eqb x x refl)
one_of-last (u ∷ us) x = or_right (eqb u x) (is_one_of (us ++ x ∷ []) x) (one_of-last us x)

one_of-before : (us : List ℕ) (x e : ℕ) → x ≢ e → is_one_of (us ++ x ∷ []) e ≡ is_one_of us e
one_of-before [] x e other = or_from (eqb x e) false (ne_eqb x e other) refl
one_of-before (u ∷ us) x e other = ap (λ (b : Bool). eqb u e || b) (one_of-before us x e other)

-- an extent is marked
pub marked_push : (us : List ℕ) (marks : List Bool) (e : ℕ) → e < length marks → IsMarked us marks → IsMarked (us ++ e ∷ []) (set marks e true)
marked_push us marks e within m k inside =
    ⊎_elim
    (λ (same : e ≡ k). subst (λ (j : ℕ). get_or (set marks e true) j false ≡ is_one_of (us ++ e ∷ []) j) same
    (get_or-set_same marks e true false within ∙ sym (one_of-last us e)))
    (λ (other : e ≢ k). get_or-set_other marks e k true false (λ s. other (sym s)) ∙ m k (omega (arith, length-set marks e true)) ∙ sym (one_of-before us e k other))
    (cases_eq e k)

-- an extent past the marks changes none
pub marked_past : (us : List ℕ) (marks : List Bool) (e : ℕ) → length marks ≤ e → IsMarked us marks → IsMarked (us ++ e ∷ []) marks
marked_past us marks e past m k inside = m k inside ∙ sym (one_of-before us e k (λ same. absurd (omega arith)))

-- ---- the loop

-- as far as extents were met
pub record Met (count : ℕ) (us es : List ℕ) (marks : List Bool) (i : ℕ) : Type 0 where
  pub long : length marks ≡ count
  pub new : are_new count us es ≡ are_new count (us ++ take i es) (drop i es)
  pub marked : IsMarked (us ++ take i es) marks

pub met_first : (us es : List ℕ) (marks : List Bool) → IsMarked us marks → Met (length marks) us es marks 0
met_first us es marks m = record {
  long = refl;
  new = ap (λ (l : List ℕ). are_new (length marks) l es) (sym (append-nil us));
  marked = subst (λ (l : List ℕ). IsMarked l marks) (sym (append-nil us)) m;
}

opened : (es : List ℕ) (i : ℕ) → i < length es → drop i es ≡ get_or es i 0 ∷ drop (i + 1) es
opened es i lt = rw add-one (drop-cons es i 0 lt)

pub taken : (us es : List ℕ) (i : ℕ) → i < length es → us ++ take (i + 1) es ≡ (us ++ take i es) ++ get_or es i 0 ∷ []
taken us es i lt = ap (λ (l : List ℕ). us ++ l) (one_more es i lt) ∙ sym (append_assoc us (take i es) (get_or es i 0 ∷ []))
  where
    one_more : (es : List ℕ) (i : ℕ) → i < length es → take (i + 1) es ≡ take i es ++ get_or es i 0 ∷ []
    one_more [] i lt = absurd (omega arith)
    one_more (e ∷ es) zero lt = refl
    one_more (e ∷ es) (suc i) lt =
        let next : suc i + 1 ≡ suc (i + 1) = omega arith in
        rw next (ap (λ (l : List ℕ). e ∷ l) (one_more es i (omega arith)))

are_new-cons : (count : ℕ) (us : List ℕ) (e : ℕ) (es : List ℕ)
    → are_new count us (e ∷ es) ≡ (ltb e count && (not (is_one_of us e) && are_new count (us ++ e ∷ []) es))
unfolding are_new
are_new-cons count us e es = refl

step : (count : ℕ) (us es : List ℕ) (i : ℕ) → i < length es → are_new count (us ++ take i es) (drop i es)
    ≡ (ltb (get_or es i 0) count && (not (is_one_of (us ++ take i es) (get_or es i 0)) && are_new count (us ++ take (i + 1) es) (drop (i + 1) es)))
step count us es i lt =
    ap (are_new count (us ++ take i es)) (opened es i lt)
    ∙ are_new-cons count (us ++ take i es) (get_or es i 0) (drop (i + 1) es)
    ∙ ap (λ (l : List ℕ). ltb (get_or es i 0) count && (not (is_one_of (us ++ take i es) (get_or es i 0)) && are_new count l (drop (i + 1) es))) (sym (taken us es i lt))

pub met_more : (count : ℕ) (us es : List ℕ) (marks : List Bool) (i : ℕ) → i < length es → get_or es i 0 < length marks
    → get_or marks (get_or es i 0) false ≡ false → Met count us es marks i → Met count us es (set marks (get_or es i 0) true) (i + 1)
met_more count us es marks i lt within fresh m =
    let e = get_or es i 0 in
    let none : is_one_of (us ++ take i es) e ≡ false = sym (m.marked e within) ∙ fresh in
    let low : e < count = omega (arith, m.long) in
    record {
      long = length-set marks e true ∙ m.long;
      new = m.new ∙ step count us es i lt ∙ rw (lt-ltb e count low, none) refl;
      marked = subst (λ (l : List ℕ). IsMarked l (set marks e true)) (sym (taken us es i lt)) (marked_push (us ++ take i es) marks e within m.marked);
    }

pub met_stop : (count : ℕ) (us es : List ℕ) (marks : List Bool) (i : ℕ) → i < length es
    → (length marks ≤ get_or es i 0) ⊎ ((get_or es i 0 < length marks) × (get_or marks (get_or es i 0) false ≡ true)) → Met count us es marks i
    → false ≡ are_new count us es
met_stop count us es marks i lt (inl past) m =
    sym (m.new ∙ step count us es i lt ∙ and_left (ltb (get_or es i 0) count) _ (le-ltb (get_or es i 0) count (omega (arith, m.long))))
met_stop count us es marks i lt (inr p) m =
    let again : is_one_of (us ++ take i es) (get_or es i 0) ≡ true = sym (m.marked (get_or es i 0) p.0) ∙ p.1 in
    sym (m.new ∙ step count us es i lt
    ∙ and_right (ltb (get_or es i 0) count) _ (and_left (not (is_one_of (us ++ take i es) (get_or es i 0))) _ (not_from_true _ again)))

pub met_end : (count : ℕ) (us es : List ℕ) (marks : List Bool) (i : ℕ) → length es ≤ i → Met count us es marks i
    → (true ≡ are_new count us es) × IsMarked (us ++ es) marks
unfolding are_new
met_end count us es marks i le m = (
  sym (m.new ∙ ap (are_new count (us ++ take i es)) (drop_all i es le)),
  subst (λ (l : List ℕ). IsMarked (us ++ l) marks) (take_all i es le) m.marked,
)

-- ---- what is new, by how often it stands there

pub new_once : (count : ℕ) (us es : List ℕ) → Once count us → are_new count us es ≡ true → Once count (us ++ es)
unfolding are_new times
new_once count us [] o h = subst (λ (l : List ℕ). Once count l) (sym (append-nil us)) o
new_once count us (e ∷ es) o h =
    let p = and_parts (ltb e count) (not (is_one_of us e) && are_new count (us ++ e ∷ []) es) h in
    let q = and_parts (not (is_one_of us e)) (are_new count (us ++ e ∷ []) es) p.1 in
    let none : times e us ≡ 0 = unused-times e us (not-true (is_one_of us e) q.0) in
    let low : e < count = ltb-true e count p.0 in
    let more : Once count (us ++ e ∷ []) = record {
      once = λ x. ⊎_elim (λ (same : e ≡ x). let gone : times x us ≡ 0 = subst (λ (y : ℕ). times y us ≡ 0) same none in
          omega (arith, times-append x us (e ∷ []), times-cons x e []))
          (λ (other : e ≢ x). omega (arith, times-append x us (e ∷ []), one_of_other e x other, o.once x)) (cases_eq e x);
      below = λ x k. ⊎_elim (λ (same : e ≡ x). omega arith)
          (λ (other : e ≢ x). o.below x (omega (arith, times-append x us (e ∷ []), one_of_other e x other))) (cases_eq e x);
    } in
    subst (λ (l : List ℕ). Once count l) (append_assoc us (e ∷ []) es) (new_once count (us ++ e ∷ []) es more q.1)

pub once_new : (count : ℕ) (us es : List ℕ) → Once count (us ++ es) → are_new count us es ≡ true
unfolding are_new times
once_new count us [] o = refl
once_new count us (e ∷ es) o =
    let there : times e (us ++ (e ∷ es)) ≡ times e us + (1 + times e es) = omega (arith, times-append e us (e ∷ es), one_of_same e) in
    let none : is_one_of us e ≡ false = times-unused e us (omega (arith, there, o.once e)) in
    and_from (ltb e count) _ (lt-ltb e count (o.below e (omega (arith, there))))
    (and_from (not (is_one_of us e)) _ (not_from_false (is_one_of us e) none)
    (once_new count (us ++ e ∷ []) es (subst (λ (l : List ℕ). Once count l) (sym (append_assoc us (e ∷ []) es)) o)))
