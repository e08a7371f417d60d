-- The UUIDs of the records in order are counted by halving.
use Rattle.std.proofs.Common.{◌≡◌, ℕ, zero, suc, ◌+◌, ◌≤◌, Bool, true, false, cond, List, [], ◌∷◌, map, length, Option, Some, None, refl, sym, ap, ap₂, ◌∙◌, arith, leb}
use Rattle.std.specs.Prelude.{count_by}
use Rattle.std.specs.List.Sorted.{IsPartitionedBy, IsPartitionPoint, IsSorted}
use Rattle.std.specs.Cmp.{IsTotalOrder}
use Rattle.std.specs.Cmp.Lexicographic.{options_total}
use Rattle.std.specs.Ordering.{is_eq, is_le, is_lt, ordering_index}
use Rattle.std.specs.declared.cmp.Ordering.{Ordering}
use Rattle.std.specs.declared.cmp.Ordering.TheVariants.{Less, Equal, Greater}
use Rattle.std.proofs.lemmas.Cmp.{nat_list_cmp_total}
use Rattle.std.proofs.lemmas.List.Sorted.{IsPartitionedBy-leb, searchable_from_sorted, sum_by-IsPermutation}
use Rattle.std.proofs.lemmas.List.Sums.{sum_by-cons}
use Rattle.std.proofs.lemmas.Map.Text.{is_eq-slice_cmp}
use Rattle.sm_record.specs.declared.records.Record.{Record}
use Rattle.sm_mgt.specs.Counts.{uuid_in, uuid_order, AreUuidsOf}
use Rattle.sm_mgt.specs.Places.{is_of}

-- ---- a search by halving counts

count_cons : {X : Type 0} (p : X → Bool) (x : X) (xs : List X) → count_by p (x ∷ xs) ≡ cond (p x) 1 0 + count_by p xs
count_cons p x xs = sum_by-cons (λ y. cond (p y) 1 0) x xs

-- the place where it ends is the number of those that pass
pub point_counts : {X : Type 0} (p : X → Bool) (xs : List X) (i : ℕ) → i ≤ length xs → IsPartitionPoint (λ x. p x ≡ true) (λ x. p x ≡ false) xs i → count_by p xs ≡ i
point_counts p [] i within point = omega (arith, within)
point_counts p (x ∷ xs) zero within point =
    let rest : count_by p xs ≡ 0 = point_counts p xs 0 (omega arith) ((λ k d low high. absurd (omega (arith, high))), (λ k d low high. point.1 (suc k) d (omega arith) (omega (arith, high)))) in
    let first : cond {A = ℕ} (p x) 1 0 ≡ 0 = ap (λ b. cond {A = ℕ} b 1 0) (point.1 0 x (omega arith) (omega arith)) in
    omega (arith, count_cons p x xs, first, rest)
point_counts p (x ∷ xs) (suc i) within point =
    let rest : count_by p xs ≡ i = point_counts p xs i (omega (arith, within))
    ((λ k d low high. point.0 (suc k) d (omega arith) (omega (arith, high))), (λ k d low high. point.1 (suc k) d (omega (arith, low)) (omega (arith, high)))) in
    let first : cond {A = ℕ} (p x) 1 0 ≡ 1 = ap (λ b. cond {A = ℕ} b 1 0) (point.0 0 x (omega arith) (omega arith)) in
    omega (arith, count_cons p x xs, first, rest)

order_total : IsTotalOrder uuid_order
order_total = options_total nat_list_cmp_total

is_lt_index : (o : Ordering) → leb (ordering_index o) 0 ≡ is_lt o
is_lt_index Less = refl
is_lt_index Equal = refl
is_lt_index Greater = refl

is_le_index : (o : Ordering) → leb (ordering_index o) 1 ≡ is_le o
is_le_index Less = refl
is_le_index Equal = refl
is_le_index Greater = refl

-- a test that answers as one by which a list is parted
parted_alike : {X : Type 0} (p q : X → Bool) (xs : List X) → ((x : X) → p x ≡ q x) → IsPartitionedBy p xs → IsPartitionedBy q xs
parted_alike p q xs same parted i j d before within passes = sym (same _) ∙ parted i j d before within (same _ ∙ passes)

-- what each search asks
pub parted_before : (u : Option (List ℕ)) (us : List (Option (List ℕ))) → IsSorted uuid_order us → IsPartitionedBy (λ v. is_lt (uuid_order v u)) us
parted_before u us sorted =
    parted_alike (λ v. leb (ordering_index (uuid_order v u)) 0) (λ v. is_lt (uuid_order v u)) us (λ v. is_lt_index (uuid_order v u))
    (IsPartitionedBy-leb (λ v. ordering_index (uuid_order v u)) us 0 (searchable_from_sorted order_total (λ v. v) us u sorted))

pub parted_up_to : (u : Option (List ℕ)) (us : List (Option (List ℕ))) → IsSorted uuid_order us → IsPartitionedBy (λ v. is_le (uuid_order v u)) us
parted_up_to u us sorted =
    parted_alike (λ v. leb (ordering_index (uuid_order v u)) 1) (λ v. is_le (uuid_order v u)) us (λ v. is_le_index (uuid_order v u))
    (IsPartitionedBy-leb (λ v. ordering_index (uuid_order v u)) us 1 (searchable_from_sorted order_total (λ v. v) us u sorted))

-- ---- those that are the same are those up to it without those before it

one_more : (o : Ordering) → cond {A = ℕ} (is_le o) 1 0 ≡ cond (is_lt o) 1 0 + cond (is_eq o) 1 0
one_more Less = refl
one_more Equal = refl
one_more Greater = refl

same_besides : (u : Option (List ℕ)) (us : List (Option (List ℕ))) → count_by (λ v. is_le (uuid_order v u)) us ≡ count_by (λ v. is_lt (uuid_order v u)) us + count_by (λ v. is_eq (uuid_order v u)) us
same_besides u [] = refl
same_besides u (v ∷ us) =
    omega (
      arith,
      one_more (uuid_order v u),
      same_besides u us,
      count_cons (λ w. is_le (uuid_order w u)) v us,
      count_cons (λ w. is_lt (uuid_order w u)) v us,
      count_cons (λ w. is_eq (uuid_order w u)) v us,
    )

is_same : (u : List ℕ) (place : Option Record) → is_eq (uuid_order (uuid_in place) (Some u)) ≡ is_of u place
is_same u None = refl
is_same u (Some r) = is_eq-slice_cmp r.uuid u

-- they are the places that have it
same_places : (u : List ℕ) (places : List (Option Record)) → count_by (λ v. is_eq (uuid_order v (Some u))) (map uuid_in places) ≡ count_by (is_of u) places
same_places u [] = refl
same_places u (place ∷ places) =
    count_cons (λ v. is_eq (uuid_order v (Some u))) (uuid_in place) (map uuid_in places)
    ∙ ap₂ (λ b n. cond b 1 0 + n) (is_same u place) (same_places u places) ∙ sym (count_cons (is_of u) place places)

-- how many places have a UUID
pub counted : (u : List ℕ) (places : List (Option Record)) (us : List (Option (List ℕ))) → AreUuidsOf places us
    → count_by (λ v. is_le (uuid_order v (Some u))) us ≡ count_by (λ v. is_lt (uuid_order v (Some u))) us + count_by (is_of u) places
counted u places us are =
    same_besides (Some u) us
    ∙ ap (λ n. count_by (λ v. is_lt (uuid_order v (Some u))) us + n)
    (sum_by-IsPermutation (λ v. cond (is_eq (uuid_order v (Some u))) 1 0) (map uuid_in places) us are.same ∙ same_places u places)
