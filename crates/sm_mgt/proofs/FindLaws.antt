-- What record a UUID has after a change.
use Rattle.std.proofs.lemmas.List.Elements.{All-head, All-tail}
use Rattle.std.proofs.lemmas.Option.{none-some, same_Some}
use Rattle.std.proofs.Common.{All, cond, subst, ◌≡◌, ℕ, ◌<◌, ◌≤◌, ◌⊎◌, inl, inr, Bool, true, false, nat_lt, List, [], ◌∷◌, length, map, get_or, set, find, slice_get, position, is_none, unwrap_or, Option, Some, None, refl, sym, ap, ◌∙◌, arith}
use Rattle.std.proofs.lemmas.Bool.{cases_Bool, cases_lt, cond-true, cond-false, lt-ltb}
use Rattle.std.proofs.lemmas.List.{length-set, get_or-set_same, get_or-set_other}
use Rattle.std.proofs.lemmas.List.Folds.{find_at}
use Rattle.std.proofs.lemmas.List.Quantifiers.{position-Some}
use Rattle.std.proofs.lemmas.List.Sums.{position_or_len_is, fails_before_first}
use Rattle.std.proofs.lemmas.Option.{slice_get-get_or}
use Rattle.std.proofs.lemmas.Slice.Eq.{bytes_eq-Decides}
use Rattle.std.specs.List.{position_or_len}
use Rattle.std.specs.Option.{option_or}
use Rattle.sm_record.specs.declared.records.Record.{Record}
use Rattle.sm_mgt.specs.Places.{is_of, place_for, record_in, cleared}

-- ---- a record is put at its place

-- the first that passes is the one put behind those that fail
found_at : (test : Option Record → Bool) (xs : List (Option Record)) (k : ℕ) (y : Option Record) → k < length xs → test y ≡ true → ((j : ℕ) → j < k → test (get_or xs j None) ≡ false) → find test (set xs k y) ≡ Some y
found_at test xs k y below passes before =
    let within : k < length (set xs k y) = omega (arith, length-set xs k y) in
    let here : get_or (set xs k y) k None ≡ y = get_or-set_same xs k y None below in
    let first : position_or_len test (set xs k y) ≡ k = position_or_len_is test (set xs k y) k None (omega arith)
    (λ j lt. ap test (get_or-set_other xs k j y None (λ e. omega (arith, lt, e))) ∙ before j lt)
    (λ _. ap test here ∙ passes) in
    find_at test (set xs k y) ∙ ap (slice_get (set xs k y)) first ∙ slice_get-get_or (set xs k y) k None within ∙ ap (λ v. Some v) here

-- where no place passes, none of them does
none_before : (test : Option Record → Bool) (xs : List (Option Record)) → position test xs ≡ None → (j : ℕ) → j < length xs → test (get_or xs j None) ≡ false
none_before test xs none j below = by (cases_lt (position_or_len test xs) (length xs))
  where
    by : (position_or_len test xs < length xs) ⊎ (length xs ≤ position_or_len test xs) → test (get_or xs j None) ≡ false
    by (inl found) =
        let some = sym (cond-true (nat_lt (position_or_len test xs) (length xs)) (Some (position_or_len test xs)) None (lt-ltb (position_or_len test xs) (length xs) found)) ∙ none in
        absurd (let e = some in cc)
    by (inr past) = fails_before_first test xs j None (omega (arith, below, past))

own_record : (row : Record) → is_of row.uuid (Some row) ≡ true
own_record row = (bytes_eq-Decides row.uuid row.uuid).1 refl

put_by : (places : List (Option Record)) (row : Record) (k : ℕ) (o : Option ℕ) → position (is_of row.uuid) places ≡ o → option_or o (position is_none places) ≡ Some k → find (is_of row.uuid) (set places k (Some row)) ≡ Some (Some row)
put_by places row k (Some j) own is =
    let there = position-Some (is_of row.uuid) places k None (own ∙ is) in
    found_at (is_of row.uuid) places k (Some row) there.0 (own_record row) there.2
put_by places row k None own is =
    let there = position-Some is_none places k None is in
    found_at (is_of row.uuid) places k (Some row) there.0 (own_record row) (λ j lt. none_before (is_of row.uuid) places own j (omega (arith, there.0, lt)))

pub put_found : (places : List (Option Record)) (row : Record) (k : ℕ) → place_for places row.uuid ≡ Some k → record_in (set places k (Some row)) row.uuid ≡ Some row
unfolding place_for
put_found places row k at = ap (λ o. unwrap_or o None) (put_by places row k (position (is_of row.uuid) places) refl at)

-- ---- the records of a UUID are cleared

cleared_not : (u : List ℕ) (o : Option Record) → is_of u (cleared u o) ≡ false
cleared_not u o = by (cases_Bool (is_of u o))
  where
    by : (is_of u o ≡ true) ⊎ (is_of u o ≡ false) → is_of u (cleared u o) ≡ false
    by (inl has) = ap (is_of u) (cond-true (is_of u o) None o has)
    by (inr hasnt) = ap (is_of u) (cond-false (is_of u o) None o hasnt) ∙ hasnt

find_none : (places : List (Option Record)) (u : List ℕ) → find (is_of u) (map (cleared u) places) ≡ None
find_none [] u = refl
find_none (o ∷ places) u =
    cond-false (is_of u (cleared u o)) (Some (cleared u o)) (find (is_of u) (map (cleared u) places)) (cleared_not u o) ∙ find_none places u

pub clear_none : (places : List (Option Record)) (u : List ℕ) → record_in (map (cleared u) places) u ≡ None
clear_none places u = ap (λ o. unwrap_or o None) (find_none places u)

-- what is found is one of the places
pub find_proper : {X : Type 0} (P : X → Type 0) (test : X → Bool) (xs : List X) (x : X) → All P xs → find test xs ≡ Some x → P x
find_proper P test [] x all is = absurd (none-some x is)
find_proper P test (y ∷ ys) x all is = by (test y) (find_proper P test ys x (All-tail P y ys all)) is
  where
    by : (b : Bool) → (find test ys ≡ Some x → P x) → cond b (Some y) (find test ys) ≡ Some x → P x
    by true rest e = subst P (same_Some y x e) (All-head P y ys all)
    by false rest e = rest e
