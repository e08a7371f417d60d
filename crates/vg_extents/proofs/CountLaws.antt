-- Free and used extents together are all.
use Rattle.std.proofs.Common.{◌≡◌, ℕ, zero, suc, ◌+◌, ◌-◌, ◌<◌, ◌≤◌, Bool, true, false, not, cond, ltb, eqb, List, [], ◌∷◌, ◌++◌, length, get_or, take, drop, Result, Ok, Err, IfOk, Vec, Global, refl, sym, ap, subst, ◌∙◌, arith, ⊎_elim}
use Rattle.std.specs.List.{filter, count_by, range_with_len, IsDistinct, AllByRecursion}
use Rattle.std.proofs.lemmas.Bool.Decides.{nat_tests}
use Rattle.std.proofs.lemmas.List.Sums.{sum_by-append}
use Rattle.std.proofs.lemmas.Bool.{cond_both, not-true, cond-false, cases_Bool, le-ltb}
use Rattle.std.proofs.lemmas.List.{append-nil, length-append, take-append-le, take_all, length-take, take-take, drop_more}
use Rattle.std.proofs.Math.ListN.{drop_of_length-le}
use Rattle.std.proofs.lemmas.List.Elements.{filter-append}
use Rattle.common_laws.proofs.Lists.{take_next}
use Rattle.vg_meta.specs.Taken.{IsMarked}
use Rattle.vg_extents.specs.Fits.{AreLeastFree, IsShortOf}
use Rattle.vg_extents.specs.Runs.{behind_last}
use Rattle.vg_extents.specs.declared.faults.FitFault.{FitFault}
use Rattle.vg_extents.specs.declared.faults.FitFault.TheVariants.{NoSpace, NoMemory}
use Rattle.vg_meta.specs.Tables.{Row, VolumeTable, used, free, extents_in, is_one_of}
use Rattle.vg_meta.specs.Roomy.{RoomyRow, rows_alone}
use Rattle.vg_meta.specs.Changes.{AreFree}
use Rattle.vg_meta.proofs.ExtentLaws.{All-weaken, times, unused-times, used-times, distinct-times, one_if}
use Rattle.vg_meta.proofs.RangeLaws.{first-push, range-below, range-distinct}
use Rattle.vg_meta.proofs.WriteLaws.{flat_map-push}
use Rattle.vg_meta.proofs.ReadSteps.{rows-push}

-- how many extents of a list are below a count
abbrev pub low : ℕ → List ℕ → ℕ
low n xs = count_by (λ (e : ℕ). ltb e n) xs

low-cons : (n x : ℕ) (xs : List ℕ) → low n (x ∷ xs) ≡ cond (ltb x n) 1 0 + low n xs
low-cons n x xs = omega (arith, sum_by-append (λ (e : ℕ). cond (ltb e n) 1 0) (x ∷ []) xs)

pub low-append : (n : ℕ) (xs ys : List ℕ) → low n (xs ++ ys) ≡ low n xs + low n ys
low-append n xs ys = sum_by-append (λ (e : ℕ). cond (ltb e n) 1 0) xs ys

low-zero : (xs : List ℕ) → low 0 xs ≡ 0
low-zero [] = refl
low-zero (x ∷ xs) =
    let none : cond {A = ℕ} (ltb x 0) 1 0 ≡ 0 = cond-false (ltb x 0) 1 0 (le-ltb x 0 (omega arith)) in
    omega (arith, low-cons 0 x xs, none, low-zero xs)

-- one more is counted where it stands there
one_step : (n x : ℕ) → cond (ltb x (n + 1)) 1 0 ≡ cond (ltb x n) 1 0 + one_if (eqb x n)
one_step n x = grind (arith, nat_tests)

low-suc : (n : ℕ) (xs : List ℕ) → low (n + 1) xs ≡ low n xs + times n xs
unfolding times
low-suc n [] = refl
low-suc n (x ∷ xs) = omega (arith, low-cons (n + 1) x xs, low-cons n x xs, one_step n x, low-suc n xs)

-- the extents below a count that are not among others
abbrev pub others : List ℕ → ℕ → List ℕ
others us n = filter (λ (e : ℕ). not (is_one_of us e)) (range_with_len 0 n)

pub others-push : (us : List ℕ) (n : ℕ) → others us (n + 1) ≡ others us n ++ cond (not (is_one_of us n)) (n ∷ []) []
others-push us n = ap (filter (λ (e : ℕ). not (is_one_of us e))) (first-push n) ∙ filter-append (λ (e : ℕ). not (is_one_of us e)) (range_with_len 0 n) (n ∷ [])

one_more : (us : List ℕ) (n : ℕ) → times n us ≤ 1 → length (cond (not (is_one_of us n)) (n ∷ []) []) + times n us ≡ 1
one_more us n once =
    ⊎_elim (λ (there : is_one_of us n ≡ true). rw there (let some = used-times n us there in omega arith))
    (λ (none : is_one_of us n ≡ false). rw none (let gone = unused-times n us none in omega arith)) (cases_Bool (is_one_of us n))

one_at_most : (b : Bool) (n : ℕ) → length (cond b (n ∷ []) []) ≤ 1
one_at_most true n = omega arith
one_at_most false n = omega arith

-- together they are all
pub others_and_low : (us : List ℕ) (n : ℕ) → IsDistinct eqb us → length (others us n) + low n us ≡ n
others_and_low us zero distinct = omega (arith, low-zero us)
others_and_low us (suc n) distinct =
    let next : suc n ≡ n + 1 = omega arith in
    let ih = others_and_low us n distinct in
    let one = one_more us n (distinct-times n us distinct) in
    subst (λ (k : ℕ). length (others us k) + low k us ≡ k) (sym next)
    (omega (arith, ap length (others-push us n), length-append (others us n) (cond (not (is_one_of us n)) (n ∷ []) []), low-suc n us, ih, one))

-- ---- extents without a mark

abbrev pub without_mark : List Bool → ℕ → List ℕ
without_mark marks n = filter (λ (e : ℕ). not (get_or marks e false)) (range_with_len 0 n)

push : (marks : List Bool) (n : ℕ) → without_mark marks (n + 1) ≡ without_mark marks n ++ cond (not (get_or marks n false)) (n ∷ []) []
push marks n = ap (filter (λ (e : ℕ). not (get_or marks e false))) (first-push n) ∙ filter-append (λ (e : ℕ). not (get_or marks e false)) (range_with_len 0 n) (n ∷ [])

-- one extent further, which has a mark
pub found_marked : (marks : List Bool) (n : ℕ) (found : List ℕ) → get_or marks n false ≡ true → found ≡ without_mark marks n → found ≡ without_mark marks (n + 1)
found_marked marks n found marked is =
    is ∙ sym (push marks n ∙ ap (λ (b : Bool). without_mark marks n ++ cond (not b) (n ∷ []) []) marked ∙ append-nil (without_mark marks n))

-- one extent further, which has none
pub found_more : (marks : List Bool) (n : ℕ) (found now : List ℕ) → get_or marks n false ≡ false → found ≡ without_mark marks n → now ≡ found ++ n ∷ [] → now ≡ without_mark marks (n + 1)
found_more marks n found now fresh is added =
    added ∙ ap (λ (l : List ℕ). l ++ n ∷ []) is ∙ sym (push marks n ∙ ap (λ (b : Bool). without_mark marks n ++ cond (not b) (n ∷ []) []) fresh)

-- what is found further on stands behind what was found
found_front : (marks : List Bool) (n k : ℕ) → take (length (without_mark marks n)) (without_mark marks (n + k)) ≡ without_mark marks n
found_front marks n zero =
    let same : n + 0 ≡ n = omega arith in
    ap (λ (m : ℕ). take (length (without_mark marks n)) (without_mark marks m)) same ∙ take_all (length (without_mark marks n)) (without_mark marks n) (omega arith)
found_front marks n (suc k) =
    let found = without_mark marks n in
    let next : n + suc k ≡ n + k + 1 = omega arith in
    let front = found_front marks n k in
    let short : length found ≤ length (without_mark marks (n + k)) = omega (arith, ap length front, length-take (length found) (without_mark marks (n + k))) in
    ap (λ (m : ℕ). take (length found) (without_mark marks m)) next ∙ ap (take (length found)) (push marks (n + k))
    ∙ take-append-le (length found) (without_mark marks (n + k)) (cond (not (get_or marks (n + k) false)) ((n + k) ∷ []) []) short ∙ front

-- as many are found as are needed
pub found_full : (marks : List Bool) (need n m : ℕ) (found : List ℕ) → n ≤ m → found ≡ without_mark marks n → length found ≡ need → found ≡ take need (without_mark marks m)
found_full marks need n m found le is full =
    let last : n + (m - n) ≡ m = omega (arith, le) in
    is ∙ sym (found_front marks n (m - n)) ∙ ap (λ (k : ℕ). take (length (without_mark marks n)) (without_mark marks k)) last
    ∙ ap (λ (k : ℕ). take k (without_mark marks m)) (sym (ap length is) ∙ full)

-- all were looked at, and no more are found than are needed
pub found_all : (marks : List Bool) (need n : ℕ) (found : List ℕ) → found ≡ without_mark marks n → length found ≤ need → found ≡ take need (without_mark marks n)
found_all marks need n found is few = is ∙ sym (take_all need (without_mark marks n) (omega (arith, ap length is)))

-- ---- the marks that are left

-- the next of them
pub next_mark : {left rest : List Bool} (marks : List Bool) (e : ℕ) (mark : Bool) → e < length marks → left ≡ drop e marks → left ≡ mark ∷ rest → (get_or marks e false ≡ mark) × (rest ≡ drop (e + 1) marks)
next_mark marks e mark lt is next =
    let front = sym next ∙ is ∙ drop_more marks e false lt in
    (sym (ap (λ (l : List Bool). get_or l 0 false) front), ap (drop 1) front)

-- an extent that has a mark leaves as many to be found
pub behind_marked : {left rest : List Bool} (need found : ℕ) (mark : Bool) → found < need → left ≡ mark ∷ rest → mark ≡ true → behind_last (need - found) left ≡ behind_last (need - found) rest
behind_marked {left} {rest} need found mark lt next marked =
    let more : need - found ≡ suc (need - (found + 1)) = omega (arith, lt) in
    ap (behind_last (need - found)) next ∙ rw marked (rw more refl)

-- one that has none leaves one less
pub behind_unmarked : {left rest : List Bool} (need found : ℕ) (mark : Bool) → found < need → left ≡ mark ∷ rest → mark ≡ false → behind_last (need - found) left ≡ behind_last (need - (found + 1)) rest
behind_unmarked {left} {rest} need found mark lt next fresh =
    let more : need - found ≡ suc (need - (found + 1)) = omega (arith, lt) in
    ap (behind_last (need - found)) next ∙ rw fresh (rw more refl)

-- all were found
pub behind_full : (need found : ℕ) (left : List Bool) → found ≡ need → behind_last (need - found) left ≡ left
behind_full need found left full =
    let none : need - found ≡ 0 = omega (arith, full) in
    ap (λ (n : ℕ). behind_last n left) none

-- no mark is left
pub behind_end : (need e : ℕ) (marks left : List Bool) → length marks ≤ e → left ≡ drop e marks → left ≡ behind_last need left
behind_end need e marks left le is =
    let gone : left ≡ [] = is ∙ drop_of_length-le marks le in
    subst (λ (l : List Bool). l ≡ behind_last need l) (sym gone) (none need)
  where
    none : (n : ℕ) → [] ≡ behind_last n []
    none zero = refl
    none (suc n) = refl

-- ---- volumes

pub rows-taken : (vs : List RoomyRow) (i : ℕ) (v : RoomyRow) → i < length vs → v ≡ get_or vs i v
    → extents_in (rows_alone (take (i + 1) vs)) ≡ extents_in (rows_alone (take i vs)) ++ v.row.extents
rows-taken vs i v lt is =
    ap (λ (l : List RoomyRow). extents_in (rows_alone l)) (take_next vs i v lt is)
    ∙ ap extents_in (rows-push (take i vs) v) ∙ flat_map-push (λ (r : Row). r.extents) (rows_alone (take i vs)) v.row

-- what was counted so far is no more than all
pub low-le : (n : ℕ) (us : List ℕ) → IsDistinct eqb us → low n us ≤ n
low-le n us distinct = omega (arith, others_and_low us n distinct)

pub low-so_far : (n : ℕ) (vs : List RoomyRow) (i : ℕ) (v : RoomyRow) → i < length vs → v ≡ get_or vs i v → IsDistinct eqb (extents_in (rows_alone vs))
    → low n (extents_in (rows_alone (take i vs))) + low n v.row.extents ≤ n
low-so_far n vs i v lt is distinct = omega (arith, part vs i v lt is, low-le n (extents_in (rows_alone vs)) distinct)
  where
    part : (vs : List RoomyRow) (i : ℕ) (v : RoomyRow) → i < length vs → v ≡ get_or vs i v
        → low n (extents_in (rows_alone (take i vs))) + low n v.row.extents ≤ low n (extents_in (rows_alone vs))
    part [] i v lt is = absurd (omega arith)
    part (x ∷ vs) zero v lt is = rw is (omega (arith, low-append n x.row.extents (extents_in (rows_alone vs))))
    part (x ∷ vs) (suc i) v lt is =
        omega (arith, low-append n x.row.extents (extents_in (rows_alone (take i vs))), low-append n x.row.extents (extents_in (rows_alone vs)), part vs i v (omega arith) is)

-- what the marks leave is what no volume has
pub unmarked_others : (us : List ℕ) (marks : List Bool) (n : ℕ) → IsMarked us marks → n ≤ length marks → without_mark marks n ≡ others us n
unmarked_others us marks zero m le = refl
unmarked_others us marks (suc n) m le =
    let next : suc n ≡ n + 1 = omega arith in
    let ih = unmarked_others us marks n m (omega arith) in
    let same : get_or marks n false ≡ is_one_of us n = m n (omega arith) in
    subst (λ (k : ℕ). without_mark marks k ≡ others us k) (sym next)
    (push marks n ∙ ap (λ (l : List ℕ). l ++ cond (not (get_or marks n false)) (n ∷ []) []) ih
    ∙ ap (λ (b : Bool). others us n ++ cond (not b) (n ∷ []) []) same ∙ sym (others-push us n))

-- what is told of a table
pub length-free : (count : ℕ) (t : VolumeTable) → IsDistinct eqb (used t) → length (free count t) + low count (used t) ≡ count
unfolding free
length-free count t distinct = others_and_low (used t) count distinct

-- there are no more than all
pub length-free-le : (count : ℕ) (t : VolumeTable) → length (free count t) ≤ count
unfolding free
length-free-le count t = few count
  where
    few : (n : ℕ) → length (others (used t) n) ≤ n
    few zero = omega arith
    few (suc n) =
        let next : suc n ≡ n + 1 = omega arith in
        subst (λ (k : ℕ). length (others (used t) k) ≤ k) (sym next)
        (omega (arith, ap length (others-push (used t) n), length-append (others (used t) n) (cond (not (is_one_of (used t) n)) (n ∷ []) []), one_at_most (not (is_one_of (used t) n)) n, few n))

-- fewer than are needed of the least ones: fewer than are needed of all
pub short_of : (need : ℕ) (free : List ℕ) (e : FitFault) → IsShortOf need (length (take need free)) e → IsShortOf need (length free) e
short_of need free (NoSpace needed left) short = (short.0, omega (arith, short.1, short.2, length-take need free), short.2)
short_of need free NoMemory short = tt

-- of those that were looked for the least are the least of all
pub least_taken : {es fs : List ℕ} (count need : ℕ) (t : VolumeTable) → fs ≡ take need (free count t) → es ≡ take need fs → es ≡ take need (free count t)
least_taken count need t is least = least ∙ ap (take need) is ∙ take-take need need (free count t) (omega arith)

pub least_free : {E : Type 0} {fs : List ℕ} (count need : ℕ) (t : VolumeTable) → fs ≡ take need (free count t) → (r : Result (Vec ℕ Global) E)
    → IfOk r (λ v. v.items ≡ take need fs) → IfOk r (λ v. length v.items ≡ need) → IfOk r (λ v. AreLeastFree count need t v.items)
least_free count need t is (Ok v) least many = record { least = least_taken count need t is least; many = many }
least_free count need t is (Err e) least many = tt

pub others_free : (count : ℕ) (t : VolumeTable) → others (used t) count ≡ free count t
unfolding free
others_free count t = refl

-- ---- the least free extents are free

All-filter : (P : ℕ → Type 0) (p : ℕ → Bool) (xs : List ℕ) → AllByRecursion P xs → AllByRecursion P (filter p xs)
All-filter P p [] all = tt
All-filter P p (x ∷ xs) all =
    cond_both (p x) (x ∷ filter p xs) (filter p xs) (λ (l : List ℕ). AllByRecursion P l) (λ _. (all.0, All-filter P p xs all.1)) (λ _. All-filter P p xs all.1)

All-passes : (p : ℕ → Bool) (xs : List ℕ) → AllByRecursion (λ (x : ℕ). p x ≡ true) (filter p xs)
All-passes p [] = tt
All-passes p (x ∷ xs) =
    cond_both (p x) (x ∷ filter p xs) (filter p xs) (λ (l : List ℕ). AllByRecursion (λ (y : ℕ). p y ≡ true) l) (λ yes. (yes, All-passes p xs)) (λ _. All-passes p xs)

distinct-filter : (p : ℕ → Bool) (xs : List ℕ) → IsDistinct eqb xs → IsDistinct eqb (filter p xs)
unfolding IsDistinct
distinct-filter p [] h = tt
distinct-filter p (x ∷ xs) h =
    cond_both (p x) (x ∷ filter p xs) (filter p xs) (λ (l : List ℕ). IsDistinct eqb l)
    (λ _. (All-filter (λ (y : ℕ). eqb x y ≡ false) p xs h.0, distinct-filter p xs h.1)) (λ _. distinct-filter p xs h.1)

All-take : (P : ℕ → Type 0) (n : ℕ) (xs : List ℕ) → AllByRecursion P xs → AllByRecursion P (take n xs)
All-take P zero xs all = tt
All-take P (suc n) [] all = tt
All-take P (suc n) (x ∷ xs) all = (all.0, All-take P n xs all.1)

distinct-take : (n : ℕ) (xs : List ℕ) → IsDistinct eqb xs → IsDistinct eqb (take n xs)
unfolding IsDistinct
distinct-take zero xs h = tt
distinct-take (suc n) [] h = tt
distinct-take (suc n) (x ∷ xs) h = (All-take (λ (y : ℕ). eqb x y ≡ false) n xs h.0, distinct-take n xs h.1)

pub AreFree-least : (count need : ℕ) (t : VolumeTable) (es : List ℕ) → es ≡ take need (free count t) → AreFree count t.volumes es
unfolding free
AreFree-least count need t es is =
    let all = range_with_len 0 count in
    let p : ℕ → Bool = λ e. not (is_one_of (used t) e) in
    rw is (record {
      below = All-take (λ (e : ℕ). e < count) need (filter p all)
          (All-filter (λ (e : ℕ). e < count) p all (All-weaken (λ (e : ℕ). e < 0 + count) (λ (e : ℕ). e < count) all (λ e h. omega arith) (range-below 0 count)));
      unused = All-take (λ (e : ℕ). is_one_of (used t) e ≡ false) need (filter p all)
          (All-weaken (λ (e : ℕ). p e ≡ true) (λ (e : ℕ). is_one_of (used t) e ≡ false) (filter p all) (λ e h. not-true (is_one_of (used t) e) h) (All-passes p all));
      distinct = distinct-take need (filter p all) (distinct-filter p all (range-distinct 0 count));
    })
