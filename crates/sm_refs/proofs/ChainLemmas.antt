-- On the volumes of a chain, counted one after the other.
use Rattle.std.proofs.Common.{◌≡◌, ◌≢◌, ℕ, ◌+◌, ◌-◌, ◌<◌, ◌≤◌, Bool, true, false, ◌||◌, List, [], ◌∷◌, length, take, drop, get_or, All, AllPairs, if◌then◌else◌, refl, sym, ap, subst, ◌∙◌, arith, length-take, get_or-take}
use Rattle.std.proofs.lemmas.Bool.{or_left, or_right, cond-true, cond-false}
use Rattle.std.proofs.lemmas.List.{take_more, take-append-drop}
use Rattle.std.proofs.lemmas.List.Elements.{All-from_get_or, All-get_or}
use Rattle.std.proofs.lemmas.List.Folds.{list_any-append, list_any_none}
use Rattle.sm_base.specs.declared.names.Name.{Name}
use Rattle.sm_refs.specs.Attached.{same_name, tally, has, one_in, HoldsChain}
use Rattle.sm_refs.proofs.NameLemmas.{name_from_same, same_name_laws, same_name-refl, other_name, apart_from_other}

abbrev one_if : Bool → ℕ
one_if b = if b then 1 else 0

-- a chain of one volume
pub has-one : (x n : Name) → has (x ∷ []) n ≡ same_name n x
has-one x n = by (same_name n x)
  where
    by : (b : Bool) → (b || false) ≡ b
    by true = refl
    by false = refl

-- one more volume of the chain
has-more : (chain : List Name) (k : ℕ) (x n : Name) → k < length chain → x ≡ get_or chain k x → has (take (k + 1) chain) n ≡ (has (take k chain) n || same_name n x)
has-more chain k x n within at =
    ap (λ ys. has ys n) (take_more chain k x within) ∙ list_any-append (same_name n) (take k chain) (get_or chain k x ∷ [])
    ∙ ap (λ y. has (take k chain) n || has (y ∷ []) n) (sym at) ∙ ap (λ b. has (take k chain) n || b) (has-one x n)

one_in-more : (chain : List Name) (k : ℕ) (x n : Name) → k < length chain → x ≡ get_or chain k x → one_in (take (k + 1) chain) n ≡ (if same_name x n then 1 else one_in (take k chain) n)
one_in-more chain k x n within at =
    ap one_if (has-more chain k x n within at ∙ ap (λ b. has (take k chain) n || b) (same_name_laws.symm n x))
    ∙ by (has (take k chain) n) (same_name x n)
  where
    by : (a b : Bool) → one_if (a || b) ≡ (if b then 1 else one_if a)
    by true true = refl
    by true false = refl
    by false true = refl
    by false false = refl

-- the volumes before it are others
one_in-before : (chain : List Name) (k : ℕ) (x : Name) → AllPairs (λ a b. a ≢ b) chain → k < length chain → x ≡ get_or chain k x → one_in (take k chain) x ≡ 0
one_in-before chain k x differ within at =
    ap one_if
    (list_any_none (same_name x) (take k chain)
    (All-from_get_or (λ y. same_name x y ≡ false) (take k chain) x
    (λ i inside.
    let early : i < k = omega (arith, length-take k chain) in
    subst (λ y. same_name x y ≡ false) (sym (get_or-take k chain i x early)) (other_name x (get_or chain i x) (λ same. differ i k x early within (sym same ∙ at))))))

-- what is counted in a part is counted in the chain
has-take : (chain : List Name) (k : ℕ) (n : Name) → has (take k chain) n ≡ true → has chain n ≡ true
has-take chain k n there =
    ap (λ ys. has ys n) (sym (take-append-drop k chain)) ∙ list_any-append (same_name n) (take k chain) (drop k chain) ∙ or_left (has (take k chain) n) (has (drop k chain) n) there

has-here : (chain : List Name) (k : ℕ) (x : Name) → k < length chain → x ≡ get_or chain k x → has chain x ≡ true
has-here chain k x within at =
    has-take chain (k + 1) x (has-more chain k x x within at ∙ or_right (has (take k chain) x) (same_name x x) (same_name-refl x))

-- f counts before, g after the first k volumes, h after one more
module _ (f g h : Name → ℕ) (chain : List Name) (k : ℕ) (x : Name) (within : k < length chain) (at : x ≡ get_or chain k x) (differ : AllPairs (λ a b. a ≢ b) chain) (before : ℕ) (was : before ≡ g x) where
  pub more_step : ((n : Name) → g n ≡ f n + one_in (take k chain) n) → h x ≡ before + 1 → ((n : Name) → n ≢ x → h n ≡ g n) → (n : Name) → h n ≡ f n + one_in (take (k + 1) chain) n
  more_step so_far given others n = by (same_name x n) refl
    where
      by : (b : Bool) → same_name x n ≡ b → h n ≡ f n + one_in (take (k + 1) chain) n
      by true e =
          let one : one_in (take (k + 1) chain) x ≡ 1 = one_in-more chain k x x within at ∙ cond-true (same_name x x) 1 (one_in (take k chain) x) (same_name-refl x) in
          let done : h x ≡ f x + one_in (take (k + 1) chain) x = omega (arith, was, given, one, so_far x, one_in-before chain k x differ within at) in
          subst (λ m. h m ≡ f m + one_in (take (k + 1) chain) m) (name_from_same x n e) done
      by false e =
          let here : h n ≡ g n = others n (apart_from_other x n e) in
          let one : one_in (take (k + 1) chain) n ≡ one_in (take k chain) n = one_in-more chain k x n within at ∙ cond-false (same_name x n) 1 (one_in (take k chain) n) e in
          omega (arith, here, one, so_far n)

  pub less_step : 0 < f x → ((n : Name) → f n ≡ g n + one_in (take k chain) n) → h x ≡ before - 1 → ((n : Name) → n ≢ x → h n ≡ g n) → (n : Name) → f n ≡ h n + one_in (take (k + 1) chain) n
  less_step some so_far given others n = by (same_name x n) refl
    where
      by : (b : Bool) → same_name x n ≡ b → f n ≡ h n + one_in (take (k + 1) chain) n
      by true e =
          let one : one_in (take (k + 1) chain) x ≡ 1 = one_in-more chain k x x within at ∙ cond-true (same_name x x) 1 (one_in (take k chain) x) (same_name-refl x) in
          let done : f x ≡ h x + one_in (take (k + 1) chain) x = omega (arith, was, given, one, so_far x, one_in-before chain k x differ within at) in
          subst (λ m. f m ≡ h m + one_in (take (k + 1) chain) m) (name_from_same x n e) done
      by false e =
          let here : h n ≡ g n = others n (apart_from_other x n e) in
          let one : one_in (take (k + 1) chain) n ≡ one_in (take k chain) n = one_in-more chain k x n within at ∙ cond-false (same_name x n) 1 (one_in (take k chain) n) e in
          omega (arith, here, one, so_far n)

  -- the volume has its old count yet
  pub same_yet_more : ((n : Name) → g n ≡ f n + one_in (take k chain) n) → before ≡ f x
  same_yet_more so_far = omega (arith, was, so_far x, one_in-before chain k x differ within at)

  pub same_yet_less : ((n : Name) → f n ≡ g n + one_in (take k chain) n) → before ≡ f x
  same_yet_less so_far = omega (arith, was, so_far x, one_in-before chain k x differ within at)

-- the room for the whole chain is room for one more volume of it
pub one_fits : (old now : List (Name × ℕ)) (chain : List Name) (k : ℕ) (x : Name) (room more : ℕ) → k < length chain → x ≡ get_or chain k x → ((n : Name) → tally now n ≡ tally old n + one_in (take k chain) n) → HoldsChain old chain room → room ≤ more → HoldsChain now (x ∷ []) more
one_fits old now chain k x room more within at so_far fit grown = record {
  names = fit.names;
  few = omega (arith, fit.few);
  counted = λ n some. by n (has (take k chain) n) refl (omega (arith, so_far n));
  added = λ n same. fit.added n (subst (λ m. has chain m ≡ true) (sym (name_from_same n x (sym (has-one x n) ∙ same))) (has-here chain k x within at));
}
  where
    by : (n : Name) (b : Bool) → has (take k chain) n ≡ b → 0 < tally old n + (if b then 1 else 0) → has fit.names n ≡ true
    by n true there some = fit.added n (has-take chain k n there)
    by n false there some = fit.counted n (omega arith)

-- what holds of each volume of the chain holds of the one at k
pub at_volume : (P : Name → Type 0) (chain : List Name) (k : ℕ) (x : Name) → k < length chain → x ≡ get_or chain k x → All P chain → P x
at_volume P chain k x within at all = subst P (sym at) (All-get_or P chain k x within all)

-- more room is room too
pub fits_more : (counts : List (Name × ℕ)) (chain : List Name) (room more : ℕ) → room ≤ more → HoldsChain counts chain room → HoldsChain counts chain more
fits_more counts chain room more grown fit = record { names = fit.names; few = omega (arith, fit.few); counted = fit.counted; added = fit.added }
