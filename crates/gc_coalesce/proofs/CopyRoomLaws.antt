-- A block that the child has a slot for takes no more room in the parent than the blocks that either has.
use Rattle.std.proofs.Common.{◌≡◌, ◌≢◌, ℕ, zero, suc, ◌+◌, ◌*◌, ◌<◌, ◌≤◌, max, true, cond, List, [], ◌∷◌, length, set, Option, Some, None, is_some, refl, sym, ap, ◌∙◌, arith, get_or-set_other}
use Rattle.std.proofs.lemmas.Nat.{mul-le}
use Rattle.std.proofs.lemmas.Option.{none-some, same_Some}
use Rattle.std.proofs.lemmas.List.Sums.{sum_by-set}
use Rattle.sm_base.specs.Numbers.{div_up, first, thin}
use Rattle.sm_base.specs.declared.sizes.Geometry.{Geometry}
use Rattle.sm_base.proofs.NumberLemmas.{le-div_up}
use Rattle.vhd_map.specs.Slots.{slot_of, is_used, used_count, top_of, least_free_slot}
use Rattle.vhd_map.proofs.SlotLemmas.{block_of_used, is_used-from_block, least_free_slot-used, slot_of-within, top_of-set}
use Rattle.vhd_volumes.specs.Truth.{HasRoomFor}
use Rattle.vhd_volumes.specs.Writes.{with_block}
use Rattle.vhd_write.proofs.MapLaws.{with_block-held, with_block-new}
use Rattle.sm_machine.specs.Collector.{count_either}
use Rattle.sm_machine.specs.Shapes.{count_blocks}
use Rattle.sm_ready.proofs.MapLaws.{count_alike}

-- ---- the least free slot is at most the number of blocks that have one

used_count-clear : (m : List (Option ℕ)) (b k : ℕ) → slot_of m b ≡ Some k → used_count (set m b None) + 1 ≡ used_count m
used_count-clear m b k has =
    let one : Option ℕ → ℕ = λ o. cond (is_some o) 1 0 in
    let step = sum_by-set one m b None None (slot_of-within m b k has) in
    let here : one (slot_of m b) ≡ 1 = ap one has in omega (arith, step, here)

used_below : (n : ℕ) (m : List (Option ℕ)) → ((k : ℕ) → k < n → is_used m k ≡ true) → n ≤ used_count m
used_below zero m used = omega arith
used_below (suc n) m used =
    let found = block_of_used m n (used n (omega arith)) in
    let rest = used_below n (set m found.0 None) (λ k below.
    let other = block_of_used m k (used k (omega arith)) in
    let apart : other.0 ≢ found.0 = λ e. omega (arith, same_Some k n (sym other.1 ∙ (ap (slot_of m) e ∙ found.1))) in
    is_used-from_block (set m found.0 None) other.0 k (get_or-set_other m found.0 other.0 None None apart ∙ other.1)) in
    omega (arith, rest, used_count-clear m found.0 n found.1)

least_used : (m : List (Option ℕ)) → least_free_slot m ≤ count_blocks m
least_used m = let few = used_below (least_free_slot m) m (λ k below. least_free_slot-used m k below) in let same = count_alike m in omega (arith, few, same)

-- ---- blocks that either has

either_least : (p v : List (Option ℕ)) → length p ≡ length v → count_blocks p ≤ count_either p v
unfolding count_blocks count_either
either_least [] v same = omega arith
either_least (x ∷ p) [] same = absurd (omega (arith, same))
either_least (None ∷ p) (None ∷ v) same = either_least p v (omega (arith, same))
either_least (None ∷ p) (Some k ∷ v) same = let rest = either_least p v (omega (arith, same)) in omega (arith, rest)
either_least (Some k ∷ p) (y ∷ v) same = let rest = either_least p v (omega (arith, same)) in omega (arith, rest)

-- one that the other alone has counts once more
either_more : (p v : List (Option ℕ)) (b j : ℕ) → length p ≡ length v → slot_of p b ≡ None → slot_of v b ≡ Some j → count_blocks p + 1 ≤ count_either p v
unfolding count_blocks count_either
either_more [] [] b j same none has = absurd (none-some j has)
either_more [] (y ∷ v) b j same none has = absurd (omega (arith, same))
either_more (x ∷ p) [] b j same none has = absurd (omega (arith, same))
either_more (None ∷ p) (None ∷ v) zero j same none has = absurd (none-some j has)
either_more (None ∷ p) (Some k ∷ v) zero j same none has = let rest = either_least p v (omega (arith, same)) in omega (arith, rest)
either_more (Some i ∷ p) (y ∷ v) zero j same none has = absurd (none-some i (sym none))
either_more (None ∷ p) (None ∷ v) (suc b) j same none has = either_more p v b j (omega (arith, same)) none has
either_more (None ∷ p) (Some k ∷ v) (suc b) j same none has = let rest = either_more p v b j (omega (arith, same)) none has in omega (arith, rest)
either_more (Some i ∷ p) (y ∷ v) (suc b) j same none has = let rest = either_more p v b j (omega (arith, same)) none has in omega (arith, rest)

-- a slot for it changes nothing
either_set : (p v : List (Option ℕ)) (b j k : ℕ) → length p ≡ length v → slot_of v b ≡ Some j → count_either (set p b (Some k)) v ≡ count_either p v
unfolding count_either
either_set [] v b j k same has = refl
either_set (x ∷ p) [] b j k same has = absurd (omega (arith, same))
either_set (None ∷ p) (None ∷ v) zero j k same has = absurd (none-some j has)
either_set (None ∷ p) (Some i ∷ v) zero j k same has = refl
either_set (Some h ∷ p) (y ∷ v) zero j k same has = refl
either_set (None ∷ p) (None ∷ v) (suc b) j k same has = either_set p v b j k (omega (arith, same)) has
either_set (None ∷ p) (Some i ∷ v) (suc b) j k same has = ap (λ n. 1 + n) (either_set p v b j k (omega (arith, same)) has)
either_set (Some h ∷ p) (y ∷ v) (suc b) j k same has = ap (λ n. 1 + n) (either_set p v b j k (omega (arith, same)) has)

-- ---- the parent's block

pub slot_top : (p v : List (Option ℕ)) (b j : ℕ) → length p ≡ length v → slot_of v b ≡ Some j → top_of (with_block b p) ≤ max (top_of p) (count_either p v)
slot_top p v b j same has = by (slot_of p b) refl
  where
    by : (o : Option ℕ) → slot_of p b ≡ o → top_of (with_block b p) ≤ max (top_of p) (count_either p v)
    by None is =
        let top = top_of-set p b (least_free_slot p) (omega (arith, slot_of-within v b j has, same)) is in
        let few = least_used p in
        let more = either_more p v b j same is has in
        let at = ap (λ m. top_of m) (with_block-new b p is) in omega (arith, top, few, more, at)
    by (Some k) is = let at = ap (λ m. top_of m) (with_block-held b p k is) in omega (arith, at)

pub slot_either : (p v : List (Option ℕ)) (b j : ℕ) → length p ≡ length v → slot_of v b ≡ Some j → count_either (with_block b p) v ≡ count_either p v
slot_either p v b j same has = by (slot_of p b) refl
  where
    by : (o : Option ℕ) → slot_of p b ≡ o → count_either (with_block b p) v ≡ count_either p v
    by None is = ap (λ m. count_either m v) (with_block-new b p is) ∙ either_set p v b j (least_free_slot p) same has
    by (Some k) is = ap (λ m. count_either m v) (with_block-held b p k is)

-- where so many slots fit so many extents they have room there
pub room_of : (g : Geometry) (slots most extents : ℕ) → slots ≤ most → thin g.extent g.block g.entries most ≤ extents → HasRoomFor g slots (extents * g.extent)
unfolding thin
room_of g slots most extents few fits =
    let some = g.in_range.extent_least in
    let one = le-div_up (first g.entries + most * (1 + g.block) + 1) g.extent (omega (arith, some)) in
    let two = mul-le (div_up (first g.entries + most * (1 + g.block) + 1) g.extent) g.extent extents g.extent fits (omega arith) in
    let three = mul-le slots (1 + g.block) most (1 + g.block) few (omega arith) in
    omega (arith, one, two, three)
