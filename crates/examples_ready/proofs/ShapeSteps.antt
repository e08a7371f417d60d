-- What makes a worked shape well-formed, step by step.
use Rattle.std.proofs.Common.{◌≡◌, ⊎_elim, ℕ, ◌<◌, ◌^◌, ◌&&◌, not, Bool, true, false, List, [], ◌∷◌, get_or, Some, None, refl, sym, ap, ◌∙◌, subst, arith, lit<, IsTrue, bytes_eq}
use Rattle.std.proofs.lemmas.Option.{none-some, same_Some}
use Rattle.std.specs.List.{list_all}
use Rattle.common_laws.specs.Lists.{In, Distinct, Sorted}
use Rattle.common_laws.proofs.Bytes.{bytes_eq-refl}
use Rattle.sm_base.specs.Names.{base_uuid}
use Rattle.sm_base.specs.declared.names.Name.{Name}
use Rattle.sm_base.proofs.BaseLemmas.{base_uuid-injective}
use Rattle.examples_moments.specs.Worked.{base}
use Rattle.examples_ready.proofs.TableSteps.{both}

-- ---- lists in order, and without twins

sorted_from : {A : Type 0} (le : A → A → Bool) (x : A) (xs : List A) → list_all (le x) xs ≡ true → (y : A) → In y xs → IsTrue (le x y)
sorted_from le x [] h y none = absurd none
sorted_from le x (z ∷ zs) h y here = both (le x z) (list_all (le x) zs) h (λ head rest. ⊎_elim (λ e. ap (le x) e ∙ head) (λ later. sorted_from le x zs rest y later) here)

abbrev pub is_sorted : {A : Type 0} → (A → A → Bool) → List A → Bool
is_sorted le [] = true
is_sorted le (x ∷ xs) = list_all (le x) xs && is_sorted le xs

pub sorted_by : {A : Type 0} (le : A → A → Bool) (xs : List A) → is_sorted le xs ≡ true → Sorted le xs
sorted_by le [] h = tt
sorted_by le (x ∷ xs) h = both (list_all (le x) xs) (is_sorted le xs) h (λ head rest. (sorted_from le x xs head, sorted_by le xs rest))

-- two UUIDs of which one has another byte
pub differ : (u v : List ℕ) → bytes_eq u v ≡ false → u ≡ v → ⊥
differ u v other same = let e = sym other ∙ ap (bytes_eq u) (sym same) ∙ bytes_eq-refl u in (let x = e in cc)

apart_from : (u : List ℕ) (us : List (List ℕ)) → list_all (λ v. not (bytes_eq u v)) us ≡ true → ¬ In u us
apart_from u [] h none = none
apart_from u (v ∷ vs) h here = both (not (bytes_eq u v)) (list_all (λ w. not (bytes_eq u w)) vs) h (λ head rest. ⊎_elim (λ e. differ u v (never (bytes_eq u v) head) e) (λ later. apart_from u vs rest later) here)
  where
    never : (b : Bool) → not b ≡ true → b ≡ false
    never true is = absurd (let e = is in cc)
    never false is = refl

abbrev pub all_apart : List (List ℕ) → Bool
all_apart [] = true
all_apart (u ∷ us) = list_all (λ v. not (bytes_eq u v)) us && all_apart us

pub apart_by : (us : List (List ℕ)) → all_apart us ≡ true → Distinct us
apart_by [] h = tt
apart_by (u ∷ us) h = both (list_all (λ v. not (bytes_eq u v)) us) (all_apart us) h (λ head rest. (apart_from u us head, apart_by us rest))

-- ---- base images

-- a UUID that begins with another byte is of no base image
pub no_base : (u : List ℕ) (n : ℕ) → get_or u 0 0 ≡ 0 → u ≡ base_uuid n → ⊥
unfolding base_uuid
no_base u n zero e = let first : get_or u 0 0 ≡ 108 = ap (λ (v : List ℕ). get_or v 0 0) e in omega (arith, zero, first)

third : base_uuid 3 ≡ base
unfolding base_uuid
third = refl

-- the base is that of the third commit
pub base_low : (n : ℕ) → n < 2 ^ 48 → base ≡ base_uuid n → n < 4
base_low n fits e = let is = base_uuid-injective 3 n (lit< tt) fits (third ∙ e) in omega (arith, is)

-- ---- parents

pub no_parent : (P : Name → Type 0) (p : Name) → None ≡ Some p → P p
no_parent P p e = absurd (none-some p e)

pub one_parent : (P : Name → Type 0) (q p : Name) → P q → Some q ≡ Some p → P p
one_parent P q p holds e = subst P (same_Some q p e) holds
