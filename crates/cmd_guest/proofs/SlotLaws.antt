-- The slots of a thick image: whichever of its disk's blocks get slots, they have room.
use Rattle.std.proofs.Common.{◌≡◌, ◌≢◌, ℕ, zero, suc, ◌+◌, ◌<◌, ◌≤◌, max, true, cond, List, [], ◌∷◌, length, set, Option, Some, None, is_some, refl, sym, ap, ◌∙◌, subst, arith, length-set, get_or-set_other}
use Rattle.std.proofs.lemmas.Option.{none-some, same_Some}
use Rattle.std.proofs.lemmas.List.Sums.{sum_by-set}
use Rattle.vhd_map.specs.Slots.{slot_of, is_used, used_count, top_of, least_free_slot}
use Rattle.vhd_map.proofs.SlotLemmas.{block_of_used, is_used-from_block, least_free_slot-used, slot_of-set_other, top_of-set, used_count-set, slot_of-within}
use Rattle.sm_machine.specs.Shapes.{count_blocks}
use Rattle.sm_ready.proofs.MapLaws.{count_alike}
use Rattle.vhd_volumes.specs.Writes.{with_block, with_blocks}
use Rattle.vhd_write.proofs.MapLaws.{with_block-held, with_block-new}

-- blocks below this one alone have slots
abbrev pub IsWithin : ℕ → List (Option ℕ) → Type 0
IsWithin d m = (b : ℕ) → d ≤ b → slot_of m b ≡ None

blocks_within : (d : ℕ) (m : List (Option ℕ)) → IsWithin d m → count_blocks m ≤ d
unfolding count_blocks
blocks_within d [] h = omega arith
blocks_within zero (Some k ∷ m) h = absurd (none-some k (sym (h 0 (omega arith))))
blocks_within zero (None ∷ m) h = blocks_within zero m (λ b low. h (suc b) (omega arith))
blocks_within (suc d) (None ∷ m) h = let rest = blocks_within d m (λ b low. h (suc b) (omega (arith, low))) in omega (arith, rest)
blocks_within (suc d) (Some k ∷ m) h = let rest = blocks_within d m (λ b low. h (suc b) (omega (arith, low))) in omega (arith, rest)

used_within : (d : ℕ) (m : List (Option ℕ)) → IsWithin d m → used_count m ≤ d
used_within d m h = let few = blocks_within d m h in let same = count_alike m in omega (arith, few, same)

-- ---- the least free slot

used_count-clear : (m : List (Option ℕ)) (b k : ℕ) → slot_of m b ≡ Some k → used_count (set m b None) + 1 ≡ used_count m
used_count-clear m b k has =
    let one : Option ℕ → ℕ = λ o. cond (is_some o) 1 0 in
    let step = sum_by-set one m b None None (slot_of-within m b k has) in
    let here : one (slot_of m b) ≡ 1 = ap one has in omega (arith, step, here)

-- where all slots below n are in use there are n of them
used_below : (n : ℕ) (m : List (Option ℕ)) → ((k : ℕ) → k < n → is_used m k ≡ true) → n ≤ used_count m
used_below zero m used = omega arith
used_below (suc n) m used =
    let found = block_of_used m n (used n (omega arith)) in
    let rest = used_below n (set m found.0 None) (λ k below.
    let other = block_of_used m k (used k (omega arith)) in
    let apart : other.0 ≢ found.0 = λ e. omega (arith, same_Some k n (sym other.1 ∙ (ap (slot_of m) e ∙ found.1))) in
    is_used-from_block (set m found.0 None) other.0 k (get_or-set_other m found.0 other.0 None None apart ∙ other.1)) in
    omega (arith, rest, used_count-clear m found.0 n found.1)

set_within : (d : ℕ) (m : List (Option ℕ)) (b k : ℕ) → b < d → IsWithin d m → IsWithin d (set m b (Some k))
set_within d m b k low h c past = slot_of-set_other m b k c (λ e. omega (arith, e, past, low)) ∙ h c past

-- it is one of the disk's blocks' where one of them has none
least_within : (d : ℕ) (m : List (Option ℕ)) (b : ℕ) → slot_of m b ≡ None → b < d → d ≤ length m → IsWithin d m → least_free_slot m < d
least_within d m b none low long h =
    let full = used_below (least_free_slot m) m (λ k below. least_free_slot-used m k below) in
    let in_map : b < length m = omega (arith, low, long) in
    let more = used_count-set m b 0 in_map none in
    let most = used_within d (set m b (Some 0)) (set_within d m b 0 low h) in
    omega (arith, full, more, most)

-- ---- blocks get slots

record IsFew (d : ℕ) (m n : List (Option ℕ)) : Type 0 where
  long : length n ≡ length m
  within : IsWithin d n
  top : top_of n ≤ max (top_of m) d

few_block : (d : ℕ) (m : List (Option ℕ)) (b : ℕ) → b < d → d ≤ length m → IsWithin d m → IsFew d m (with_block b m)
few_block d m b low long h = by (slot_of m b) refl
  where
    by : (o : Option ℕ) → slot_of m b ≡ o → IsFew d m (with_block b m)
    by None is =
        let least = least_within d m b is low long h in
        let top = top_of-set m b (least_free_slot m) (omega (arith, low, long)) is in
        subst (IsFew d m) (sym (with_block-new b m is)) (record {
          long = length-set m b (Some (least_free_slot m));
          within = set_within d m b (least_free_slot m) low h;
          top = omega (arith, least, top);
        })
    by (Some k) is = subst (IsFew d m) (sym (with_block-held b m k is)) (record { long = refl; within = h; top = omega arith })

pub few_blocks : (d b n : ℕ) (m : List (Option ℕ)) → b + n ≤ d → d ≤ length m → IsWithin d m → top_of (with_blocks b n m) ≤ max (top_of m) d
unfolding with_blocks
few_blocks d b zero m low long h = omega arith
few_blocks d b (suc n) m low long h =
    let f = few_block d m b (omega (arith, low)) long h in
    let rest = few_blocks d (suc b) n (with_block b m) (omega (arith, low)) (omega (arith, long, f.long)) f.within in
    omega (arith, rest, f.top)
