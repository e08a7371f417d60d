-- The map after a slot is given, and what a map's numbers mean.
use Rattle.std.proofs.Common.{◌≡◌, ◌≢◌, ℕ, ◌+◌, ◌-◌, ◌*◌, ◌<◌, ◌≤◌, ◌⊎◌, Bool, true, false, cond, eqb, ◌||◌, max, List, [], ◌∷◌, length, get_or, set, take, replicate, Option, Some, None, zero, suc, is_some, count_by, refl, sym, ap, ◌∙◌, subst, inl, inr, ⊎_elim, eq-eqb, arith, add-zero, get_or-set_same, get_or-set_other, length-set}
use Rattle.std.specs.List.{zip}
use Rattle.std.proofs.lemmas.Bool.{cases_Bool, cases_eq, cases_lt, eqb-true, true≢false, ne_eqb, or_cases, false_from_ne_true}
use Rattle.std.proofs.lemmas.List.{take_all, get_or_past, get_or-replicate, length-replicate}
use Rattle.std.proofs.lemmas.List.Folds.{list_any_at, sum_by-replicate}
use Rattle.std.proofs.lemmas.List.Sums.{sum_by-set, count_by-le-length, count_by_more_yes, count_by_more_no}
use Rattle.std.proofs.lemmas.Slice.Zip.{get_or-zip, length-zip}
use Rattle.std.proofs.lemmas.Option.{none-some, same_Some}
use Rattle.vhd_map.specs.Slots.{slot_of, names_slot, is_used, used_count, past, top_of, free_from, least_free_slot, union_size, IsMap}

-- a block that has a slot is below T
pub slot_of-within : (m : List (Option ℕ)) (block slot : ℕ) → slot_of m block ≡ Some slot → block < length m
slot_of-within m block slot has = ⊎_elim (λ h. h) (λ h. absurd (none-some slot (sym (get_or_past m block None h) ∙ has))) (cases_lt block (length m))

-- a slot that a block has is in use
pub is_used-from_block : (m : List (Option ℕ)) (block slot : ℕ) → slot_of m block ≡ Some slot → is_used m slot ≡ true
is_used-from_block m block slot has =
    list_any_at (names_slot slot) m block None (slot_of-within m block slot has) (ap (names_slot slot) has ∙ eq-eqb slot slot refl)

names_slot-true : (slot : ℕ) (o : Option ℕ) → names_slot slot o ≡ true → o ≡ Some slot
names_slot-true slot None e = absurd (true≢false (sym e))
names_slot-true slot (Some k) e = ap Some (eqb-true k slot e)

-- a slot in use is some block's
pub block_of_used : (m : List (Option ℕ)) (slot : ℕ) → is_used m slot ≡ true → (block : ℕ) × (slot_of m block ≡ Some slot)
block_of_used [] slot used = absurd (true≢false (sym used))
block_of_used (o ∷ m) slot used =
    ⊎_elim (λ here. (0, names_slot-true slot o here)) (λ later. let found = block_of_used m slot later in (suc found.0, found.1)) (or_cases (names_slot slot o) (is_used m slot) used)

-- a slot that is not in use is no block's
pub unused-no_block : (m : List (Option ℕ)) (slot : ℕ) → is_used m slot ≡ false → (block : ℕ) → slot_of m block ≢ Some slot
unused-no_block m slot unused block has = true≢false (sym (is_used-from_block m block slot has) ∙ unused)

-- a slot that is no block's is not in use
pub is_used-from_no_block : (m : List (Option ℕ)) (slot : ℕ) → ((block : ℕ) → slot_of m block ≢ Some slot) → is_used m slot ≡ false
is_used-from_no_block m slot none = false_from_ne_true (is_used m slot) (λ used. let found = block_of_used m slot used in none found.0 found.1)

-- no number from T on is a slot in use
pub is_used-past : (m : List (Option ℕ)) (slot : ℕ) → IsMap m → length m ≤ slot → is_used m slot ≡ false
is_used-past m slot good far = is_used-from_no_block m slot (λ block has. let near = good.below block slot has in omega arith)

-- ---- a block that had none is given a slot

pub slot_of-set_same : (m : List (Option ℕ)) (block slot : ℕ) → block < length m → slot_of (set m block (Some slot)) block ≡ Some slot
slot_of-set_same m block slot within = get_or-set_same m block (Some slot) None within

pub slot_of-set_other : (m : List (Option ℕ)) (block slot b : ℕ) → b ≢ block → slot_of (set m block (Some slot)) b ≡ slot_of m b
slot_of-set_other m block slot b apart = get_or-set_other m block b (Some slot) None apart

pub is_used-set_same : (m : List (Option ℕ)) (block slot : ℕ) → block < length m → is_used (set m block (Some slot)) slot ≡ true
is_used-set_same m block slot within = is_used-from_block (set m block (Some slot)) block slot (slot_of-set_same m block slot within)

pub is_used-set_other : (m : List (Option ℕ)) (block slot k : ℕ) → block < length m → slot_of m block ≡ None → k ≢ slot → is_used (set m block (Some slot)) k ≡ is_used m k
is_used-set_other [] block slot k within without apart = absurd (omega arith)
is_used-set_other (o ∷ m) zero slot k within without apart =
    let other : eqb slot k ≡ false = ne_eqb slot k (λ e. apart (sym e)) in
    ap (λ (b : Bool). b || is_used m k) (other ∙ sym (ap (names_slot k) without))
is_used-set_other (o ∷ m) (suc block) slot k within without apart =
    ap (λ (b : Bool). names_slot k o || b) (is_used-set_other m block slot k (omega arith) without apart)

pub used_count-set : (m : List (Option ℕ)) (block slot : ℕ) → block < length m → slot_of m block ≡ None → used_count (set m block (Some slot)) ≡ used_count m + 1
used_count-set m block slot within without =
    let one : Option ℕ → ℕ = λ o. cond (is_some o) 1 0 in
    let step = sum_by-set one m block (Some slot) None within in
    let zero : one (slot_of m block) ≡ 0 = ap one without in omega (arith, step, zero)

pub used_count-le : (m : List (Option ℕ)) → used_count m ≤ length m
used_count-le m = count_by-le-length is_some m

pub top_of-set : (m : List (Option ℕ)) (block slot : ℕ) → block < length m → slot_of m block ≡ None → top_of (set m block (Some slot)) ≡ max (top_of m) (slot + 1)
top_of-set [] block slot within without = absurd (omega arith)
top_of-set (o ∷ m) zero slot within without = let none : past o ≡ 0 = ap past without in omega (arith, none)
top_of-set (o ∷ m) (suc block) slot within without =
    let step = top_of-set m block slot (omega arith) without in omega (arith, step)

top_of-below : (m : List (Option ℕ)) (n : ℕ) → ((block slot : ℕ) → slot_of m block ≡ Some slot → slot < n) → top_of m ≤ n
top_of-below [] n below = omega arith
top_of-below (None ∷ m) n below = let rest = top_of-below m n (λ block slot has. below (suc block) slot has) in omega (arith, rest)
top_of-below (Some k ∷ m) n below =
    let rest = top_of-below m n (λ block slot has. below (suc block) slot has) in
    let first = below 0 k refl in omega (arith, rest, first)

-- the top is at most T
pub top_of-le : (m : List (Option ℕ)) → IsMap m → top_of m ≤ length m
top_of-le m good = top_of-below m (length m) good.below

-- each slot in use is below the top
pub top_of-past : (m : List (Option ℕ)) (block slot : ℕ) → slot_of m block ≡ Some slot → slot < top_of m
top_of-past [] block slot has = absurd (none-some slot has)
top_of-past (o ∷ m) zero slot has = let here : past o ≡ slot + 1 = ap past has in omega (arith, here)
top_of-past (o ∷ m) (suc block) slot has = let rest = top_of-past m block slot has in omega (arith, rest)

pub IsMap-set : (m : List (Option ℕ)) (block slot : ℕ) → IsMap m → block < length m → is_used m slot ≡ false → slot < length m → IsMap (set m block (Some slot))
IsMap-set m block slot good within unused low = record { below = below; once = once }
  where
    n : length (set m block (Some slot)) ≡ length m
    n = length-set m block (Some slot)

    at : (b k : ℕ) → slot_of (set m block (Some slot)) b ≡ Some k → ((b ≡ block) × (slot ≡ k)) ⊎ ((b ≢ block) × (slot_of m b ≡ Some k))
    at b k has = ⊎_elim
        (λ e. inl (e, same_Some slot k (sym (slot_of-set_same m block slot within) ∙ ap (slot_of (set m block (Some slot))) (sym e) ∙ has)))
        (λ ne. inr (ne, sym (slot_of-set_other m block slot b ne) ∙ has)) (cases_eq b block)

    below : (b k : ℕ) → slot_of (set m block (Some slot)) b ≡ Some k → k < length (set m block (Some slot))
    below b k has = ⊎_elim (λ h. omega (arith, n, h.1)) (λ h. omega (arith, n, good.below b k h.1)) (at b k has)

    once : (a b k : ℕ) → slot_of (set m block (Some slot)) a ≡ Some k → slot_of (set m block (Some slot)) b ≡ Some k → a ≡ b
    once a b k has has' = ⊎_elim
        (λ h. ⊎_elim (λ h'. h.0 ∙ sym h'.0) (λ h'. absurd (unused-no_block m slot unused b (h'.1 ∙ ap Some (sym h.1)))) (at b k has'))
        (λ h. ⊎_elim (λ h'. absurd (unused-no_block m slot unused a (h.1 ∙ ap Some (sym h'.1)))) (λ h'. good.once a b k h.1 h'.1) (at b k has'))
        (at a k has)

-- ---- the map without slots

pub is_used-replicate : (n slot : ℕ) → is_used (replicate n None) slot ≡ false
is_used-replicate zero slot = refl
is_used-replicate (suc n) slot = is_used-replicate n slot

pub used_count-replicate : (n : ℕ) → used_count (replicate {A = Option ℕ} n None) ≡ 0
used_count-replicate n = sum_by-replicate (λ (o : Option ℕ). cond (is_some o) 1 0) n None ∙ zero_times n
  where
    zero_times : (n : ℕ) → n * 0 ≡ 0
    zero_times n = omega arith

pub top_of-replicate : (n : ℕ) → top_of (replicate n None) ≡ 0
top_of-replicate zero = refl
top_of-replicate (suc n) = omega (arith, top_of-replicate n)

pub slot_of-replicate : (n block : ℕ) → slot_of (replicate n None) block ≡ None
slot_of-replicate n block =
    ⊎_elim (λ within. get_or-replicate n block None None within) (λ far. get_or_past (replicate n None) block None (rw (length-replicate {A = Option ℕ} n None) far)) (cases_lt block n)

pub IsMap-replicate : (n : ℕ) → IsMap (replicate n None)
IsMap-replicate n = record {
  below = λ block slot has. absurd (none-some slot (sym (slot_of-replicate n block) ∙ has));
  once = λ a b slot has has'. absurd (none-some slot (sym (slot_of-replicate n a) ∙ has));
}

-- ---- the least free slot

free_from-is : (m : List (Option ℕ)) (n from slot : ℕ) → from ≤ slot → slot ≤ from + n → is_used m slot ≡ false → ((k : ℕ) → k < slot → is_used m k ≡ true) → slot ≡ free_from m n from
free_from-is m zero from slot low high free used = omega arith
free_from-is m (suc n) from slot low high free used =
    ⊎_elim (λ below. let here = used from below in rw here (free_from-is m n (from + 1) slot (omega arith) (omega arith) free used))
    (λ above. let same : slot ≡ from = omega arith in let here : is_used m from ≡ false = ap (is_used m) (sym same) ∙ free in rw here same)
    (cases_lt from slot)

-- a number that is no slot in use, and below which all are, is the least free slot
pub least_free_slot-is : (m : List (Option ℕ)) (slot : ℕ) → IsMap m → is_used m slot ≡ false → ((k : ℕ) → k < slot → is_used m k ≡ true) → slot ≡ least_free_slot m
unfolding least_free_slot
least_free_slot-is m slot good free used =
    free_from-is m (length m) 0 slot (omega arith) (⊎_elim (λ far. absurd (true≢false (sym (used (length m) far) ∙ is_used-past m (length m) good (omega arith)))) (λ near. omega arith) (cases_lt (length m) slot)) free used

free_from-free : (m : List (Option ℕ)) (n from : ℕ) → is_used m (from + n) ≡ false → is_used m (free_from m n from) ≡ false
free_from-free m zero from end = subst (λ (k : ℕ). is_used m k ≡ false) (add-zero from) end
free_from-free m (suc n) from end =
    ⊎_elim (λ (used : is_used m from ≡ true). rw used (free_from-free m n (from + 1) (subst (λ (k : ℕ). is_used m k ≡ false) (omega arith) end))) (λ (free : is_used m from ≡ false). rw free free) (cases_Bool (is_used m from))

free_from-used : (m : List (Option ℕ)) (n from k : ℕ) → from ≤ k → k < free_from m n from → is_used m k ≡ true
free_from-used m zero from k low high = absurd (omega arith)
free_from-used m (suc n) from k low high =
    ⊎_elim (λ (used : is_used m from ≡ true). ⊎_elim (λ e. ap (is_used m) e ∙ used) (λ apart. free_from-used m n (from + 1) k (omega arith) (rw used at high)) (cases_eq k from))
    (λ (free : is_used m from ≡ false). absurd (let near : k < from = rw free at high in omega arith)) (cases_Bool (is_used m from))

-- the least free slot is no slot in use
pub least_free_slot-free : (m : List (Option ℕ)) → IsMap m → is_used m (least_free_slot m) ≡ false
unfolding least_free_slot
least_free_slot-free m good = free_from-free m (length m) 0 (is_used-past m (0 + length m) good (omega arith))

-- and each number below it is one
pub least_free_slot-used : (m : List (Option ℕ)) (k : ℕ) → k < least_free_slot m → is_used m k ≡ true
unfolding least_free_slot
least_free_slot-used m k below = free_from-used m (length m) 0 k (omega arith) below

-- ---- the blocks of two maps

-- block i has a slot in either map
abbrev either : List (Option ℕ) → List (Option ℕ) → ℕ → Bool
either m n i = is_some (slot_of m i) || is_some (slot_of n i)

-- the number of blocks below i that have a slot in either map
abbrev either_below : List (Option ℕ) → List (Option ℕ) → ℕ → ℕ
either_below m n i = count_by (λ (a, b). is_some a || is_some b) (take i (zip m n))

at_zip : (m n : List (Option ℕ)) (i : ℕ) → i < length m → length m ≡ length n → get_or (zip m n) i (None, None) ≡ (slot_of m i, slot_of n i)
at_zip m n i within same = get_or-zip m n i (None, None) within (omega arith)

pub union_size-more_yes : (m n : List (Option ℕ)) (i : ℕ) → i < length m → length m ≡ length n → either m n i ≡ true → either_below m n (i + 1) ≡ either_below m n i + 1
union_size-more_yes m n i within same some =
    count_by_more_yes (λ (p : Option ℕ × Option ℕ). is_some p.0 || is_some p.1) (zip m n) i (None, None) (omega (arith, length-zip m n)) (ap (λ (p : Option ℕ × Option ℕ). is_some p.0 || is_some p.1) (at_zip m n i within same) ∙ some)

pub union_size-more_no : (m n : List (Option ℕ)) (i : ℕ) → i < length m → length m ≡ length n → either m n i ≡ false → either_below m n (i + 1) ≡ either_below m n i
union_size-more_no m n i within same neither =
    count_by_more_no (λ (p : Option ℕ × Option ℕ). is_some p.0 || is_some p.1) (zip m n) i (None, None) (omega (arith, length-zip m n)) (ap (λ (p : Option ℕ × Option ℕ). is_some p.0 || is_some p.1) (at_zip m n i within same) ∙ neither)

pub union_size-all : (m n : List (Option ℕ)) (i : ℕ) → length m ≡ length n → length m ≤ i → either_below m n i ≡ union_size m n
union_size-all m n i same past =
    ap (count_by (λ (p : Option ℕ × Option ℕ). is_some p.0 || is_some p.1)) (take_all i (zip m n) (omega (arith, length-zip m n)))
