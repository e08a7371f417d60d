-- On lists of counts.
use Rattle.std.proofs.Common.{◌≡◌, ◌≢◌, ℕ, ◌+◌, ◌<◌, ◌≤◌, Bool, true, false, not, cond, List, [], ◌∷◌, ◌++◌, length, filter, Option, Some, None, is_some, unwrap_or, IfSome, refl, sym, ap, ◌∙◌, ⊎_elim, arith, length-append}
use Rattle.std.proofs.lemmas.List.{length-map}
use Rattle.std.specs.List.{IsDistinct, list_any}
use Rattle.std.specs.Map.{keys_of, lookup, set_value}
use Rattle.std.proofs.lemmas.Bool.{or_cases, false≢true, cond-true, cond-false, cond_both}
use Rattle.std.proofs.lemmas.List.Elements.{All-cons, All-head, All-tail, All-filter}
use Rattle.std.proofs.lemmas.List.Folds.{list_any-append}
use Rattle.std.proofs.lemmas.Map.Entries.{All-lookup, lookup-filter-keys}
use Rattle.std.proofs.lemmas.Map.Keys.{IsDistinct-push}
use Rattle.std.proofs.lemmas.Map.Made.{is_some-lookup, length-le_from_is_member}
use Rattle.indexmap.specs.IndexMap.{insert_entry}
use Rattle.sm_base.specs.declared.names.Name.{Name}
use Rattle.sm_refs.specs.Attached.{same_name, tally, HoldsChain}
use Rattle.sm_refs.specs.Tallies.{AreAbove}
use Rattle.sm_refs.proofs.NameLemmas.{name_from_same, same_name_laws, same_name-refl, other_name}

-- ---- what is kept

pub AreAbove-without : (p : Name × ℕ → Bool) (es : List (Name × ℕ)) → AreAbove es → AreAbove (filter p es)
AreAbove-without p es above = All-filter p (λ c. 0 < c.1) es above

pub AreAbove-insert_entry : (es : List (Name × ℕ)) (k : Name) (v : ℕ) → AreAbove es → 0 < v → AreAbove (insert_entry same_name es k v)
AreAbove-insert_entry [] k v above some = All-cons (λ (c : Name × ℕ). 0 < c.1) (k, v) [] some above
AreAbove-insert_entry (e ∷ es) k v above some =
    let P = λ (c : Name × ℕ). 0 < c.1 in
    cond_both (same_name k e.0) ((e.0, v) ∷ es) (e ∷ insert_entry same_name es k v) AreAbove
    (λ _. All-cons P (e.0, v) es some (All-tail P e es above))
    (λ _. All-cons P e (insert_entry same_name es k v) (All-head P e es above) (AreAbove-insert_entry es k v (All-tail P e es above) some))

pub AreAbove-set_value : (test : Name → Bool) (es : List (Name × ℕ)) (v : ℕ) → AreAbove es → 0 < v → AreAbove (set_value test es v)
AreAbove-set_value test [] v above some = above
AreAbove-set_value test (e ∷ es) v above some =
    let P = λ (c : Name × ℕ). 0 < c.1 in
    cond_both (test e.0) ((e.0, v) ∷ es) (e ∷ set_value test es v) AreAbove
    (λ _. All-cons P (e.0, v) es some (All-tail P e es above))
    (λ _. All-cons P e (set_value test es v) (All-head P e es above) (AreAbove-set_value test es v (All-tail P e es above) some))

-- ---- one volume's count

-- a key has a count
pub counted_key : (es : List (Name × ℕ)) (n : Name) → AreAbove es → list_any (same_name n) (keys_of es) ≡ true → 0 < tally es n
counted_key es n above there =
    by (lookup (same_name n) es) (All-lookup (λ v. 0 < v) (same_name n) es above) (is_some-lookup (same_name n) es ∙ there)
  where
    by : (o : Option ℕ) → IfSome o (λ v. 0 < v) → is_some o ≡ true → 0 < unwrap_or o 0
    by None above there = absurd (false≢true there)
    by (Some v) above there = above

-- one more volume fits
pub fits_one : (es : List (Name × ℕ)) (v : Name) (room : ℕ) → IsDistinct same_name (keys_of es) → AreAbove es → lookup (same_name v) es ≡ None → HoldsChain es (v ∷ []) room → length es + 1 ≤ room
fits_one es v room apart above none fit =
    let absent : list_any (same_name v) (keys_of es) ≡ false = sym (is_some-lookup (same_name v) es) ∙ ap is_some none in
    let longer = length-le_from_is_member same_name_laws (keys_of es ++ v ∷ []) fit.names (IsDistinct-push same_name_laws (keys_of es) v apart absent)
    (λ q inside. ⊎_elim (λ old. fit.counted q (counted_key es q above old)) (fit.added q) (or_cases (list_any (same_name q) (keys_of es)) (list_any (same_name q) (v ∷ [])) (sym (list_any-append (same_name q) (keys_of es) (v ∷ [])) ∙ inside))) in
    omega (arith, longer, fit.few, length-append (keys_of es) (v ∷ []), length-map es (λ (e : Name × ℕ). e.0))

pub left_for_one : (es : List (Name × ℕ)) (v : Name) (count spare : ℕ) → IsDistinct same_name (keys_of es) → AreAbove es → lookup (same_name v) es ≡ None → count ≢ 0 → (tally es v ≡ 0 → 0 < count → HoldsChain es (v ∷ []) (length es + spare)) → 0 < spare
left_for_one es v count spare apart above none some fit =
    let positive : 0 < count = omega arith in
    let most = fits_one es v (length es + spare) apart above none (fit (ap (λ o. unwrap_or o 0) none) positive) in
    omega (arith, most)

-- ---- after one volume was given a count

-- what a look-up finds, where the key v has w and each other key what it had
module _ (old new : List (Name × ℕ)) (v : Name) (w : Option ℕ) (updates : (q : Name) → lookup (same_name q) new ≡ cond (same_name v q) w (lookup (same_name q) old)) where
  pub tally_given : tally new v ≡ unwrap_or w 0
  tally_given = ap (λ o. unwrap_or o 0) (updates v ∙ cond-true (same_name v v) w (lookup (same_name v) old) (same_name-refl v))

  pub tally_others : (other : Name) → other ≢ v → tally new other ≡ tally old other
  tally_others other apart = ap (λ o. unwrap_or o 0) (updates other ∙ cond-false (same_name v other) w (lookup (same_name other) old) (other_name v other (λ same. apart (sym same))))

pub lookup-without : (es : List (Name × ℕ)) (v q : Name) → lookup (same_name q) (filter (λ e. not (same_name v e.0)) es) ≡ cond (same_name v q) None (lookup (same_name q) es)
lookup-without es v q =
    lookup-filter-keys (same_name q) (λ k. not (same_name v k)) (not (same_name v q)) (λ k same. ap (λ m. not (same_name v m)) (sym (name_from_same q k same))) es
    ∙ by (same_name v q) (lookup (same_name q) es)
  where
    by : (b : Bool) (o : Option ℕ) → cond (not b) o None ≡ cond b None o
    by true o = refl
    by false o = refl
