-- On the entries of a map of which one is removed by putting the others back, first to last.
use Rattle.std.proofs.Common.{◌≡◌, ◌≢◌, ℕ, zero, suc, ◌+◌, ◌-◌, ◌<◌, ◌≤◌, Bool, true, false, not, cond, List, [], ◌∷◌, ◌++◌, length, take, filter, get_or, slice_get, Some, None, option_map, refl, sym, ap, subst, ◌∙◌, arith, length-take, append-nil}
use Rattle.std.specs.Cmp.{IsEquivalence}
use Rattle.std.specs.List.{IsDistinct}
use Rattle.std.specs.Map.{keys_of, lookup}
use Rattle.std.proofs.lemmas.Bool.{cond-false, cond_both}
use Rattle.std.proofs.lemmas.List.Elements.{filter_more}
use Rattle.std.proofs.lemmas.List.Sums.{length-filter, count_by-le-length}
use Rattle.std.proofs.lemmas.Option.{none-some, slice_get-map, slice_get_within, get_or_from_slice_get}
use Rattle.std.proofs.lemmas.Map.Entries.{lookup-filter-keys}
use Rattle.std.proofs.lemmas.Map.Keys.{apart_from_distinct, IsDistinct-tail}
use Rattle.std.proofs.lemmas.List.{length_push}
use Rattle.indexmap.specs.IndexMap.{IndexMap, insert_entry}
use Rattle.indexmap.proofs.CallerLemmas.{insert_entry-new}

module _ {K V : Type 0} (eq : K → K → Bool) (laws : IsEquivalence eq) where
  -- no entry before the one of the key l has a key equal to it
  pub lookup-before : (es : List (K × V)) (n : ℕ) (l : K) (v : V) → IsDistinct eq (keys_of es) → slice_get es n ≡ Some (l, v) → lookup (eq l) (take n es) ≡ None
  lookup-before [] n l v apart at = absurd (none-some (l, v) at)
  lookup-before (e ∷ es) zero l v apart at = refl
  lookup-before (e ∷ es) (suc n) l v apart at =
      let key_at : slice_get (keys_of es) n ≡ Some l = slice_get-map (λ (p : K × V). p.0) es n ∙ ap (option_map (λ (p : K × V). p.0)) at in
      let within : n < length (keys_of es) = slice_get_within (keys_of es) n l key_at in
      let there : get_or (keys_of es) n l ≡ l = get_or_from_slice_get (keys_of es) n l l key_at in
      let early : 0 < suc n = omega arith in
      let late : suc n < length (keys_of (e ∷ es)) = omega arith in
      let other : eq e.0 l ≡ false = subst (λ k. eq e.0 k ≡ false) there (apart_from_distinct eq (keys_of (e ∷ es)) 0 (suc n) l apart early late) in
      cond-false (eq l e.0) (Some e.1) (lookup (eq l) (take n es)) (laws.symm l e.0 ∙ other) ∙ lookup-before es n l v (IsDistinct-tail eq e.0 (keys_of es) apart) at

  module _ (key : K) where
    -- the entries of other keys
    abbrev pub others : List (K × V) → List (K × V)
    others es = filter (λ e. not (eq key e.0)) es

    pub lookup-others : (es : List (K × V)) (l : K) → lookup (eq l) es ≡ None → lookup (eq l) (others es) ≡ None
    lookup-others es l none =
        lookup-filter-keys (eq l) (λ k. not (eq key k)) (not (eq key l)) (λ k same. ap not (laws.symm key k ∙ sym (laws.congr l k key same) ∙ laws.symm l key)) es
        ∙ cond_both (not (eq key l)) (lookup (eq l) es) None (λ r. r ≡ None) (λ _. none) (λ _. refl)

    pub length-others : (es : List (K × V)) (n : ℕ) → length (others (take n es)) ≤ n
    length-others es n =
        omega (arith, length-filter (λ (e : K × V). not (eq key e.0)) (take n es), count_by-le-length (λ (e : K × V). not (eq key e.0)) (take n es), length-take n es)

    -- one more entry, which is kept if its key is another
    pub others-more : (es : List (K × V)) (c : ℕ) (l : K) (v : V) → c ≢ 0 → slice_get es (c - 1) ≡ Some (l, v) → others (take c es) ≡ others (take (c - 1) es) ++ cond (not (eq key l)) ((l, v) ∷ []) []
    others-more es c l v some at =
        let within : c - 1 < length es = slice_get_within es (c - 1) (l, v) at in
        let here : (c - 1) + 1 ≡ c = omega arith in
        let e : get_or es (c - 1) (l, v) ≡ (l, v) = get_or_from_slice_get es (c - 1) (l, v) (l, v) at in
        subst (λ m. others (take m es) ≡ others (take (c - 1) es) ++ cond (not (eq key l)) ((l, v) ∷ []) []) here
        (subst (λ (p : K × V). others (take ((c - 1) + 1) es) ≡ others (take (c - 1) es) ++ cond (not (eq key p.0)) (p ∷ []) []) e (filter_more (λ (p : K × V). not (eq key p.0)) es (c - 1) (l, v) within))

    pub others-more_kept : (es : List (K × V)) (c : ℕ) (l : K) (v : V) → c ≢ 0 → slice_get es (c - 1) ≡ Some (l, v) → eq key l ≡ false → others (take c es) ≡ others (take (c - 1) es) ++ (l, v) ∷ []
    others-more_kept es c l v some at other =
        others-more es c l v some at ∙ ap (λ b. others (take (c - 1) es) ++ cond (not b) ((l, v) ∷ []) []) other

    pub others-more_out : (es : List (K × V)) (c : ℕ) (l : K) (v : V) → c ≢ 0 → slice_get es (c - 1) ≡ Some (l, v) → eq key l ≡ true → others (take c es) ≡ others (take (c - 1) es)
    others-more_out es c l v some at same =
        others-more es c l v some at ∙ ap (λ b. others (take (c - 1) es) ++ cond (not b) ((l, v) ∷ []) []) same ∙ append-nil (others (take (c - 1) es))

    -- there is a place for one more, once the first entries but one were looked at
    pub place_left : (es now : List (K × V)) (c room left : ℕ) → c ≢ 0 → c ≤ length es → now ≡ others (take (c - 1) es) → length es + room ≤ length now + left → 0 < left
    place_left es now c room left some within is kept = omega (arith, ap length is, length-others es (c - 1))

-- the entry that is looked at is put back behind those before it
module _ {K V S : Type 0} (eq : K → K → Bool) (laws : IsEquivalence eq) (key : K) (es : List (K × V)) (m : IndexMap K V S) (new : List (K × V)) (c : ℕ) (l : K) (v : V)
    (apart : IsDistinct eq (keys_of es)) (at : slice_get es (c - 1) ≡ Some (l, v)) (before : m.entries ≡ others eq laws key (take (c - 1) es)) (put : new ≡ insert_entry eq m.entries l v) where
  last : new ≡ m.entries ++ (l, v) ∷ []
  last = put ∙ insert_entry-new eq m l v (ap (lookup (eq l)) before ∙ lookup-others eq laws key (take (c - 1) es) l (lookup-before eq laws es (c - 1) l v apart at))

  pub entries-put_back : c ≢ 0 → eq key l ≡ false → new ≡ others eq laws key (take c es)
  entries-put_back some other = last ∙ ap (λ fs. fs ++ (l, v) ∷ []) before ∙ sym (others-more_kept eq laws key es c l v some at other)

  pub length-put_back : length new ≡ length m.entries + 1
  length-put_back = ap length last ∙ length_push m.entries (l, v)
