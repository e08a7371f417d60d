-- The names of a chain from an image up, as the machine has them: each once, and each that of an image that is there.
use Rattle.std.proofs.Common.{◌≡◌, ◌⊎◌, ⊎_elim, ℕ, zero, suc, List, [], ◌∷◌, Option, Some, None, refl, sym, ap, subst}
use Rattle.sm_base.specs.declared.names.Name.{Name}
use Rattle.common_laws.specs.Lists.{In, Distinct}
use Rattle.sm_machine.specs.Shapes.{ImageRow, chain, parent_of}
use Rattle.sm_machine.specs.WellFormed.{EndsWithin}
use Rattle.sm_machine.proofs.Chains.{IsThere}

-- ---- name by name

-- the names from this one up, at most so many; none where there is none
abbrev pub rest : ℕ → List ImageRow → Option Name → List Name
rest most images None = []
rest most images (Some n) = chain most n images

pub rest_none : (images : List ImageRow) (o : Option Name) → rest 0 images o ≡ []
unfolding chain
rest_none images None = refl
rest_none images (Some n) = refl

pub rest_more : (most : ℕ) (images : List ImageRow) (n : Name) → rest (suc most) images (Some n) ≡ n ∷ rest most images (parent_of n images)
unfolding chain
rest_more most images n = ap (λ ns. n ∷ ns) (by (parent_of n images))
  where
    by : (o : Option Name) → (elim o as (λ o. List Name) [ None ↦ [] | Some p ↦ chain most p images ]) ≡ rest most images o
    by None = refl
    by (Some p) = refl

-- ---- each once

ends_more : (k : ℕ) (o : Option Name) (images : List ImageRow) → EndsWithin k o images → EndsWithin (suc k) o images
ends_more k None images e = tt
ends_more zero (Some n) images e = absurd e
ends_more (suc k) (Some n) images e = ends_more k (parent_of n images) images e

in_rest : (most : ℕ) (images : List ImageRow) (n x : Name) → In x (rest (suc most) images (Some n)) → (x ≡ n) ⊎ In x (rest most images (parent_of n images))
in_rest most images n x i = subst (λ ns. In x ns) (rest_more most images n) i

-- an image further up ends no later
further_ends : (most k : ℕ) (images : List ImageRow) (o : Option Name) (x : Name) → In x (rest most images o) → EndsWithin k o images → EndsWithin k (Some x) images
further_ends most k images None x i e = absurd i
further_ends zero k images (Some n) x i e = absurd (subst (λ ns. In x ns) (rest_none images (Some n)) i)
further_ends (suc most) zero images (Some n) x i e = absurd e
further_ends (suc most) (suc k) images (Some n) x i e =
    ⊎_elim (λ same. subst (λ y. EndsWithin (suc k) (Some y) images) (sym same) e) (λ up. ends_more k (Some x) images (further_ends most k images (parent_of n images) x up e)) (in_rest most images n x i)

-- no image is above itself
pub not_above : (k most : ℕ) (images : List ImageRow) (n : Name) → EndsWithin k (parent_of n images) images → In n (rest most images (parent_of n images)) → ⊥
not_above zero most images n e i = by (parent_of n images) refl e i
  where
    by : (o : Option Name) → parent_of n images ≡ o → EndsWithin zero o images → In n (rest most images o) → ⊥
    by None is e i = i
    by (Some p) is e i = e
not_above (suc k) most images n e i = not_above k most images n (further_ends most (suc k) images (parent_of n images) n i e) i

pub rest_differs : (most k : ℕ) (images : List ImageRow) (o : Option Name) → EndsWithin k o images → Distinct (rest most images o)
rest_differs most k images None e = tt
rest_differs zero k images (Some n) e = subst (λ ns. Distinct ns) (sym (rest_none images (Some n))) tt
rest_differs (suc most) zero images (Some n) e = absurd e
rest_differs (suc most) (suc k) images (Some n) e =
    subst (λ ns. Distinct ns) (sym (rest_more most images n)) ((λ i. not_above k most images n e i), rest_differs most k images (parent_of n images) e)

-- ---- all there

pub rest_there : (images : List ImageRow) → ((n p : Name) → IsThere images n → parent_of n images ≡ Some p → IsThere images p)
    → (most : ℕ) (o : Option Name) → ((n : Name) → o ≡ Some n → IsThere images n) → (x : Name) → In x (rest most images o) → IsThere images x
rest_there images up most None there x i = absurd i
rest_there images up zero (Some n) there x i = absurd (subst (λ ns. In x ns) (rest_none images (Some n)) i)
rest_there images up (suc most) (Some n) there x i =
    ⊎_elim (λ same. subst (IsThere images) (sym same) (there n refl)) (λ further. rest_there images up most (parent_of n images) (λ p is. up n p (there n refl) is) x further) (in_rest most images n x i)
