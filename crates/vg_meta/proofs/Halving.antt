-- What stands in order of name is sought by halving.
use Rattle.std.proofs.Common.{◌≡◌, ℕ, zero, suc, ◌+◌, ◌<◌, ◌≤◌, true, false, not, List, [], ◌∷◌, map, length, get_or, refl, sym, ap, ◌∙◌, arith, Ordering}
use Rattle.std.specs.List.{AllByRecursion}
use Rattle.std.specs.List.Sorted.{IsStrictlySortedBy, IsPartitionedBy}
use Rattle.std.specs.Ordering.{is_lt}
use Rattle.std.specs.declared.cmp.Ordering.TheVariants.{Less, Equal, Greater}
use Rattle.std.proofs.lemmas.Bool.{true≢false}
use Rattle.sm_base.specs.declared.names.Name.{Name}
use Rattle.sm_base.specs.Names.{name_cmp}
use Rattle.vg_meta.specs.Halves.{is_up_to, IsInOrder, AreUpTo}
use Rattle.sm_base.proofs.OrderLemmas.{name_cmp_total, name_cmp-itself}

-- a name that is less than this one is none behind it, and one behind it is none up to it
less_up_to : (n m : Name) → name_cmp n m ≡ Less → is_up_to n m ≡ false
less_up_to n m e = ap (λ (o : Ordering). not (is_lt o)) e

itself_up_to : (n : Name) → is_up_to n n ≡ true
itself_up_to n = ap (λ (o : Ordering). not (is_lt o)) (name_cmp-itself n)

up_to_less : (n a m : Name) → name_cmp a m ≡ Less → is_up_to n m ≡ true → is_up_to n a ≡ true
up_to_less n a m less up = go (name_cmp n a) refl
  where
    go : (o : Ordering) → name_cmp n a ≡ o → is_up_to n a ≡ true
    go Less e = absurd (true≢false (sym up ∙ less_up_to n m (name_cmp_total.trans n a m e less)))
    go Equal e = ap (λ (o : Ordering). not (is_lt o)) e
    go Greater e = ap (λ (o : Ordering). not (is_lt o)) e

pub name_of : {X : Type 0} (f : X → Name) (Q : Name → Type 0) (xs : List X) (j : ℕ) (d : X) → j < length xs → AllByRecursion Q (map f xs) → Q (f (get_or xs j d))
name_of f Q [] j d within all = absurd (omega arith)
name_of f Q (x ∷ xs) zero d within all = all.0
name_of f Q (x ∷ xs) (suc j) d within all = name_of f Q xs j d (omega arith) all.1

-- of two places the first has the lesser name
less_in_order : {X : Type 0} (f : X → Name) (xs : List X) (i j : ℕ) (d : X) → i < j → j < length xs → IsInOrder f xs
    → name_cmp (f (get_or xs i d)) (f (get_or xs j d)) ≡ Less
unfolding IsStrictlySortedBy
less_in_order f [] i j d before within order = absurd (omega arith)
less_in_order f (x ∷ xs) i zero d before within order = absurd (omega arith)
less_in_order f (x ∷ xs) zero (suc j) d before within order = name_of f (λ (m : Name). name_cmp (f x) m ≡ Less) xs j d (omega arith) order.0
less_in_order f (x ∷ xs) (suc i) (suc j) d before within order = less_in_order f xs i j d (omega arith) (omega arith) order.1

-- what a search by halving asks
pub parted_by_name : {X : Type 0} (f : X → Name) (n : Name) (xs : List X) → IsInOrder f xs → IsPartitionedBy (λ x. is_up_to n (f x)) xs
unfolding IsStrictlySortedBy
parted_by_name f n [] order i j d before within up = absurd (omega arith)
parted_by_name f n (x ∷ xs) order zero zero d before within up = up
parted_by_name f n (x ∷ xs) order (suc i) zero d before within up = absurd (omega arith)
parted_by_name f n (x ∷ xs) order zero (suc j) d before within up =
    up_to_less n (f x) (f (get_or xs j d)) (name_of f (λ (m : Name). name_cmp (f x) m ≡ Less) xs j d (omega arith) order.0) up
parted_by_name f n (x ∷ xs) order (suc i) (suc j) d before within up = parted_by_name f n xs order.1 i j d (omega arith) (omega arith) up

-- what has the name stands right in front of the place
pub stands_last : {X : Type 0} (f : X → Name) (n : Name) (xs : List X) (i : ℕ) → IsInOrder f xs → i ≤ length xs → AreUpTo f n xs i
    → (j : ℕ) (d : X) → j < length xs → f (get_or xs j d) ≡ n → j + 1 ≡ i
stands_last f n xs i order long parted j d within named =
    let low : i ≤ j → ⊥ = λ le. true≢false (sym (up named) ∙ parted.1 j d le within) in
    let high : j + 1 < i → ⊥ = λ lt. true≢false (sym (parted.0 (j + 1) d (omega arith) lt) ∙ behind named lt) in
    omega (arith, low, high)
  where
    up : f (get_or xs j d) ≡ n → is_up_to n (f (get_or xs j d)) ≡ true
    up named = rw named (itself_up_to n)

    behind : f (get_or xs j d) ≡ n → j + 1 < i → is_up_to n (f (get_or xs (j + 1) d)) ≡ false
    behind named lt = less_up_to n (f (get_or xs (j + 1) d)) (ap (λ (m : Name). name_cmp m (f (get_or xs (j + 1) d))) (sym named) ∙ less_in_order f xs j (j + 1) d (omega arith) (omega arith) order)
