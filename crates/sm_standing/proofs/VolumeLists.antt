-- The names of a list of volumes, and how many pass a test, where one goes or gets another name.
use Rattle.std.proofs.Common.{◌≡◌, ◌≢◌, inl, inr, ℕ, suc, ◌+◌, ◌≤◌, Less, Bool, true, false, cond, List, [], ◌∷◌, length, Some, refl, sym, ap, ◌∙◌, arith}
use Rattle.std.specs.List.{AllByRecursion, filter}
use Rattle.std.specs.Ordering.{is_lt}
use Rattle.std.specs.List.Sorted.{IsStrictlySortedBy}
use Rattle.std.proofs.lemmas.Bool.{true≢false}
use Rattle.std.proofs.lemmas.Option.{none-some}
use Rattle.common_laws.specs.Lists.{In}
use Rattle.sm_base.specs.Kinds.{is_image}
use Rattle.sm_base.specs.Names.{name_cmp}
use Rattle.sm_base.specs.declared.names.Name.{Name}
use Rattle.vg_meta.specs.Tables.{Row, names_of, name_eq, row_of}
use Rattle.vg_meta.specs.Changes.{put, without}
use Rattle.vg_meta.proofs.NameLaws.{less_other, name_eq-false, name_eq-other, name_eq-refl, name_eq-true}
use Rattle.vg_meta.proofs.RowLaws.{IsRising}

ahead : (a : Name) (rs : List Row) (r : Row) → AllByRecursion (λ (m : Name). name_cmp a m ≡ Less) (names_of rs) → In r rs → a ≢ r.name
ahead a [] r all i = absurd i
ahead a (s ∷ rs) r all (inl is) = λ same. less_other a s.name all.0 (same ∙ ap (λ (x : Row). x.name) is)
ahead a (s ∷ rs) r all (inr i) = ahead a rs r all.1 i

-- each volume is found by its name
pub found_in : (rs : List Row) → IsRising rs → (r : Row) → In r rs → row_of rs r.name ≡ Some r
unfolding row_of IsStrictlySortedBy
found_in [] rising r i = absurd i
found_in (s ∷ rs) rising r (inl is) = ap (λ (x : Row). cond (name_eq s.name x.name) (Some s) (row_of rs x.name)) is ∙ ap (λ b. cond b (Some s) (row_of rs s.name)) (name_eq-refl s.name) ∙ ap Some (sym is)
found_in (s ∷ rs) rising r (inr i) =
    ap (λ b. cond b (Some s) (row_of rs r.name)) (name_eq-other s.name r.name (ahead s.name rs r rising.0 i)) ∙ found_in rs rising.1 r i

-- ---- the names that pass a test

module _ (test : Name → Bool) where
  abbrev passing : List Row → List Name
  passing rs = filter test (names_of rs)

  pub names_without : (n : Name) (rs : List Row) → test n ≡ false → passing (without n rs) ≡ passing rs
  unfolding without
  names_without n [] none = refl
  names_without n (r ∷ rs) none = by (name_eq r.name n) refl (names_without n rs none)
    where
      by : (b : Bool) → name_eq r.name n ≡ b → passing (without n rs) ≡ passing rs → passing (cond b rs (r ∷ without n rs)) ≡ passing (r ∷ rs)
      by true is rest = sym (ap (λ b. cond b (r.name ∷ passing rs) (passing rs)) (ap test (name_eq-true r.name n is) ∙ none))
      by false is rest = ap (λ ns. cond (test r.name) (r.name ∷ ns) ns) rest

  pub names_put : (r : Row) (rs : List Row) → test r.name ≡ false → passing (put r rs) ≡ passing rs
  unfolding put
  names_put r [] none = ap (λ b. cond b (r.name ∷ []) []) none
  names_put r (s ∷ rs) none = by (is_lt (name_cmp r.name s.name)) (names_put r rs none)
    where
      by : (b : Bool) → passing (put r rs) ≡ passing rs → passing (cond b (r ∷ s ∷ rs) (s ∷ put r rs)) ≡ passing (s ∷ rs)
      by true rest = ap (λ b. cond b (r.name ∷ passing (s ∷ rs)) (passing (s ∷ rs))) none
      by false rest = ap (λ ns. cond (test s.name) (s.name ∷ ns) ns) rest

  -- the only one goes
  pub none_without : (n : Name) (rs : List Row) → test n ≡ true → passing rs ≡ n ∷ [] → passing (without n rs) ≡ []
  unfolding without
  none_without n [] is one = absurd (let x = one in cc)
  none_without n (r ∷ rs) is one = by (name_eq r.name n) refl (none_without n rs is)
    where
      rest_of : (b : Bool) → cond b (r.name ∷ passing rs) (passing rs) ≡ n ∷ [] → b ≡ true → passing rs ≡ []
      rest_of true h at = let x = h in cc
      rest_of false h at = absurd (true≢false (sym at))

      step : (b : Bool) → test r.name ≡ b → name_eq r.name n ≡ false → cond b (r.name ∷ passing rs) (passing rs) ≡ n ∷ [] → (passing rs ≡ n ∷ [] → passing (without n rs) ≡ [])
          → cond b (r.name ∷ passing (without n rs)) (passing (without n rs)) ≡ []
      step true at other h further = absurd (name_eq-false r.name n other (let x = h in cc))
      step false at other h further = further h

      by : (b : Bool) → name_eq r.name n ≡ b → (passing rs ≡ n ∷ [] → passing (without n rs) ≡ []) → passing (cond b rs (r ∷ without n rs)) ≡ []
      by true at further = rest_of (test r.name) one (ap test (name_eq-true r.name n at) ∙ is)
      by false at further = step (test r.name) refl at one further

-- ---- how many volumes pass a test

module _ (test : Row → Bool) where
  abbrev count : List Row → ℕ
  count rs = length (filter test rs)

  more : (b : Bool) (r : Row) (rs : List Row) → length (cond b (r ∷ filter test rs) (filter test rs)) ≤ suc (count rs)
  more true r rs = omega arith
  more false r rs = omega arith

  least : (b : Bool) (r : Row) (rs : List Row) → count rs ≤ length (cond b (r ∷ filter test rs) (filter test rs))
  least true r rs = omega arith
  least false r rs = omega arith

  behind_one : (b : Bool) (r : Row) (xs ys : List Row) (k : ℕ) → count xs ≤ count ys + k → length (cond b (r ∷ filter test xs) (filter test xs)) ≤ length (cond b (r ∷ filter test ys) (filter test ys)) + k
  behind_one true r xs ys k fewer = omega (arith, fewer)
  behind_one false r xs ys k fewer = fewer

  pub count_without : (n : Name) (rs : List Row) → count (without n rs) ≤ count rs
  unfolding without
  count_without n [] = omega arith
  count_without n (r ∷ rs) = by (name_eq r.name n) (count_without n rs)
    where
      by : (b : Bool) → count (without n rs) ≤ count rs → count (cond b rs (r ∷ without n rs)) ≤ count (r ∷ rs)
      by true rest = least (test r) r rs
      by false rest = let k = behind_one (test r) r (without n rs) rs 0 (omega (arith, rest)) in omega (arith, k)

  pub count_put : (r : Row) (rs : List Row) → count (put r rs) ≤ suc (count rs)
  unfolding put
  count_put r [] = more (test r) r []
  count_put r (s ∷ rs) = by (is_lt (name_cmp r.name s.name)) (count_put r rs)
    where
      by : (b : Bool) → count (put r rs) ≤ suc (count rs) → count (cond b (r ∷ s ∷ rs) (s ∷ put r rs)) ≤ suc (count (s ∷ rs))
      by true rest = more (test r) r (s ∷ rs)
      by false rest = let k = behind_one (test s) s (put r rs) rs 1 (omega (arith, rest)) in omega (arith, k)

  -- one that passes goes
  pub count_one : (n : Name) (rs : List Row) (r : Row) → row_of rs n ≡ Some r → test r ≡ true → suc (count (without n rs)) ≡ count rs
  unfolding row_of without
  count_one n [] r there is = absurd (none-some r there)
  count_one n (s ∷ rs) r there is = by (name_eq s.name n) there (λ h. count_one n rs r h is)
    where
      both : (b : Bool) (k : ℕ) → suc (count (without n rs)) ≡ count rs → suc (length (cond b (s ∷ filter test (without n rs)) (filter test (without n rs)))) ≡ length (cond b (s ∷ filter test rs) (filter test rs))
      both true k rest = ap suc rest
      both false k rest = rest

      by : (b : Bool) → cond b (Some s) (row_of rs n) ≡ Some r → (row_of rs n ≡ Some r → suc (count (without n rs)) ≡ count rs) → suc (count (cond b rs (s ∷ without n rs))) ≡ count (s ∷ rs)
      by true h rest = sym (ap (λ b. length (cond b (s ∷ filter test rs) (filter test rs))) (ap test (let x = h in cc) ∙ is))
      by false h rest = both (test s) 0 (rest h)

-- as many images where the names are the same
pub images_named : (rs qs : List Row) → names_of rs ≡ names_of qs → length (filter (λ r. is_image r.name) rs) ≡ length (filter (λ r. is_image r.name) qs)
images_named rs qs same = by_names rs ∙ ap (λ ns. length (filter is_image ns)) same ∙ sym (by_names qs)
  where
    by_names : (xs : List Row) → length (filter (λ r. is_image r.name) xs) ≡ length (filter is_image (names_of xs))
    by_names [] = refl
    by_names (x ∷ xs) = by (is_image x.name) (by_names xs)
      where
        by : (b : Bool) → length (filter (λ r. is_image r.name) xs) ≡ length (filter is_image (names_of xs))
            → length (cond b (x ∷ filter (λ r. is_image r.name) xs) (filter (λ r. is_image r.name) xs)) ≡ length (cond b (x.name ∷ filter is_image (names_of xs)) (filter is_image (names_of xs)))
        by true rest = ap suc rest
        by false rest = rest
