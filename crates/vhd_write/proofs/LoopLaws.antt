-- The first pass, block by block.
use Rattle.std.proofs.Common.{◌≡◌, ◌≢◌, ℕ, ◌+◌, ◌-◌, ◌*◌, ◌/◌, ◌<◌, ◌≤◌, ◌⊎◌, Bool, true, false, List, length, Option, Some, None, sym, ap, ◌∙◌, subst, inl, inr, ⊎_elim, arith}
use Rattle.std.specs.Bool.{OnTrue, OnFalse}
use Rattle.std.proofs.lemmas.Bool.{cases_lt, cases_eq, true≢false}
use Rattle.std.proofs.Math.Nat.{div-mul-le_self}
use Rattle.std.proofs.lemmas.Nat.{le-div, mul-le, mod_below, div-add-mod'}
use Rattle.std.proofs.lemmas.Option.{none-some, same_Some}
use Rattle.sm_disk.specs.Held.{Held, IsIn, Puts, Reaches, reads}
use Rattle.sm_disk.proofs.ReachesLaws.{Reaches-then, Reaches-wider}
use Rattle.vhd_map.specs.Bitmaps.{is_set}
use Rattle.vhd_map.specs.Slots.{slot_of, top_of, least_free_slot}
use Rattle.vhd_map.proofs.SlotLemmas.{unused-no_block, least_free_slot-free, top_of-past}
use Rattle.vhd_layout.specs.Layouts.{Sectors, Layout, Slots, place, slot_count}
use Rattle.vhd_layout.proofs.ImageLaws.{option_cases, place-same}
use Rattle.vhd_volumes.specs.Writes.{HasGrown, with_block}
use Rattle.vhd_write.specs.Passes.{PutsSlot, PutsBlock, PutsData, IsPut, ArePut, AreAllNewSet, IsFull}
use Rattle.vhd_write.specs.Spans.{IsSpan, Given}

-- the first block is before the end
pub span-order : {block at count first end : ℕ} → IsSpan block at count first end → first < end
span-order {block} {at} {count} {first} {end} s =
    let more = le-div (at / block) (at + count - 1) block (let whole = div-mul-le_self at block in omega (arith, whole, s.some)) (omega (arith, s.block_least)) in
    omega (arith, more, s.first_is, s.end_is)

-- a written sector lies in one of the span's blocks
pub span-block : {block at count first end : ℕ} → IsSpan block at count first end → (b i : ℕ) → i < block → IsIn at (512 * count) (b * block + i) → (first ≤ b) × (b < end)
span-block {block} {at} {count} {first} {end} s b i within here = (low (cases_lt b first), high (cases_lt b end))
  where
    low : (b < first) ⊎ (first ≤ b) → first ≤ b
    low (inr h) = h
    low (inl less) =
        let whole = div-mul-le_self at block in
        let row = mul-le (b + 1) block (at / block) block (omega (arith, s.first_is)) (omega arith) in
        absurd (omega (arith, whole, row, here.0))

    high : (b < end) ⊎ (end ≤ b) → b < end
    high (inl h) = h
    high (inr past) =
        let whole = div-add-mod' (at + count - 1) block in
        let rest = mod_below (at + count - 1) block (omega (arith, s.block_least)) in
        let row = mul-le ((at + count - 1) / block + 1) block b block (omega (arith, s.end_is)) (omega arith) in
        absurd (omega (arith, whole, rest, row, here.1, s.some))

-- each of the span's blocks has a written sector
pub span-touches : {block at count first end : ℕ} → IsSpan block at count first end → (b : ℕ) → first ≤ b → b < end → (i : ℕ) × (i < block) × IsIn at (512 * count) (b * block + i)
span-touches {block} {at} {count} {first} {end} s b low high = by (cases_lt (b * block) at)
  where
    by : (b * block < at) ⊎ (at ≤ b * block) → (i : ℕ) × (i < block) × IsIn at (512 * count) (b * block + i)
    by (inl before) =
        let whole = div-add-mod' at block in
        let rest = mod_below at block (omega (arith, s.block_least)) in
        let row = mul-le (at / block) block b block (omega (arith, s.first_is, low)) (omega arith) in
        (at - b * block, omega (arith, whole, rest, row, before), (omega (arith, before), omega (arith, before, s.some)))
    by (inr from_at) =
        let whole = div-mul-le_self (at + count - 1) block in
        let row = mul-le b block ((at + count - 1) / block) block (omega (arith, s.end_is, high)) (omega arith) in
        (0, omega (arith, s.block_least), (omega (arith, from_at), omega (arith, whole, row, s.some)))

-- so does one of those whose entries a sector of the table has
pub table-block : {block at count first end : ℕ} → IsSpan block at count first end → (index : ℕ) → first / 128 ≤ index → index ≤ (end - 1) / 128 → (b : ℕ) × (first ≤ b) × (b < end) × (b / 128 ≡ index)
table-block {block} {at} {count} {first} {end} s index low high =
    let order = span-order s in
    ⊎_elim
    (λ inside. (128 * index, omega (arith, inside), omega (arith, high, order), omega arith))
    (λ at_first. (first, omega arith, order, omega (arith, low, at_first)))
    (cases_lt first (128 * index))

-- where nothing is put yet
pub put-none : {l : Layout} {at count first end : ℕ} (from : List ℕ) (m : List (Option ℕ)) (r : Sectors) → IsSpan l.block at count first end → length from ≡ 512 * count → ArePut l (Puts at from) (IsIn at (length from)) (slot_of m) (slot_of m) first r
put-none {l} {at} {count} {first} {end} from m r s long = λ b below. record {
  data_is = λ k has i v within puts. absurd (let here = span-block s b i within (puts.0.0, omega (arith, long, puts.0.1)) in omega (arith, here.0));
  fresh = λ k none has. absurd (none-some k (sym none ∙ has));
}

-- a part of a slot
slot-part : (l : Layout) (W : ℕ → List ℕ → Type 0) (M : ℕ → Type 0) (b k p : ℕ) (v : List ℕ) → PutsSlot l W M b k p v → (j : ℕ) × (j < 1 + l.block) × (p ≡ place l k j)
slot-part l W M b k p v (inl (touched, here, only)) = (0, omega arith, here)
slot-part l W M b k p v (inr h) = (1 + h.i, omega (arith, h.within), h.here)

module _ (l : Layout) (W : ℕ → List ℕ → Type 0) (M : ℕ → Type 0) (first c : ℕ) (m n : List (Option ℕ)) (given : Given first c m n) (low : first ≤ c)
    (new_in : slot_of n c ≡ None → least_free_slot n < slot_count l) where
  -- what the step puts is what the pass puts
  step-wider : (p : ℕ) (v : List ℕ) → PutsBlock l W M n c p v → PutsData l W (slot_of m) p v
  step-wider p v (inl (k, has, h)) = inl (c, k, sym (given.others c (inr (omega arith))) ∙ has, h)
  step-wider p v (inr (none, h)) =
      let part = slot-part l W M c (least_free_slot n) p v h in
      inr (record {
        k = least_free_slot n;
        free = λ b has. unused-no_block n (least_free_slot n) (least_free_slot-free n given.good) b (given.grown.keeps b (least_free_slot n) has);
        below = new_in none;
        j = part.0;
        within = part.1;
        here = part.2;
      })

  pub put-reaches : {x y z : Held} → Reaches (PutsData l W (slot_of m)) x y → Reaches (PutsBlock l W M n c) y z → Reaches (PutsData l W (slot_of m)) x z
  put-reaches r s = Reaches-then r (Reaches-wider step-wider s)

  -- another block's slot keeps what it has
  kept_place : {y z : Held} → Reaches (PutsBlock l W M n c) y z → (b k j : ℕ) → b ≢ c → slot_of n b ≡ Some k → j < 1 + l.block → reads z (place l k j) ≡ reads y (place l k j)
  kept_place {y} {z} s b k j apart has within = ⊎_elim (λ e. e) (λ h. absurd (go h)) (s.gives (place l k j))
    where
      go : PutsBlock l W M n c (place l k j) (reads z (place l k j)) → ⊥
      go (inl (o, had, h)) =
          let same = place-same l k o j (1 + h.i) within (omega (arith, h.within)) h.here in
          apart (given.good.once b c k has (had ∙ ap Some (sym same.0)))
      go (inr (none, h)) =
          let part = slot-part l W M c (least_free_slot n) (place l k j) (reads z (place l k j)) h in
          let same = place-same l k (least_free_slot n) j part.0 within part.1 part.2 in
          unused-no_block n (least_free_slot n) (least_free_slot-free n given.good) b (has ∙ ap Some same.0)

  put_kept : {y z : Held} {o : Option ℕ} → Reaches (PutsBlock l W M n c) y z → (b : ℕ) → b ≢ c → IsPut l W M o (slot_of n b) b (reads y) → IsPut l W M o (slot_of n b) b (reads z)
  put_kept {y} {z} {o} s b apart was = record {
    data_is = λ k has i v within puts. kept_place s b k (1 + i) apart has (omega arith) ∙ was.data_is k has i v within puts;
    fresh = λ k none has.
        let old = was.fresh k none has in
        let bitmap = kept_place s b k 0 apart has (omega arith) in
        record {
          only = λ i on. old.only i (sym (ap (λ x. is_set x i) bitmap) ∙ on);
          each = λ i within here. ap (λ x. is_set x i) bitmap ∙ old.each i within here;
          some = old.some;
        };
  }

  pub put-more : {y z : Held} {n' : List (Option ℕ)} → n' ≡ with_block c n → ((b : ℕ) → b ≢ c → slot_of n' b ≡ slot_of n b) → Reaches (PutsBlock l W M n c) y z
      → ArePut l W M (slot_of m) (slot_of n) c (reads y) → IsPut l W M (slot_of n c) (slot_of n' c) c (reads z)
      → ArePut l W M (slot_of m) (slot_of n') (c + 1) (reads z)
  put-more {y} {z} {n'} is others s before here = λ b below. ⊎_elim
      (λ same. subst (λ x. IsPut l W M (slot_of m x) (slot_of n' x) x (reads z)) (sym same) (subst (λ o. IsPut l W M o (slot_of n' c) c (reads z)) (given.others c (inr (omega arith))) here))
      (λ apart. subst (λ o. IsPut l W M (slot_of m b) o b (reads z)) (sym (others b apart)) (put_kept s b apart (before b (omega arith))))
      (cases_eq b c)

-- a slot that is not below the top of the map before is new, and holds the bits of the given sectors
pub put-set : {l : Layout} {W : ℕ → List ℕ → Type 0} {M : ℕ → Type 0} {m n : List (Option ℕ)} {end : ℕ} {r : Sectors} (first : ℕ) → HasGrown m n → ArePut l W M (slot_of m) (slot_of n) end r → AreAllNewSet l M (top_of m) (slot_of n) first end r
put-set {l} {W} {M} {m} {n} {end} {r} first grown put = λ b low high k has new. ((put b high).fresh k (without b k has new) has).each
  where
    without : (b k : ℕ) → slot_of n b ≡ Some k → top_of m ≤ k → slot_of m b ≡ None
    without b k has new = ⊎_elim
        (λ none. none)
        (λ had. absurd (omega (arith, new, top_of-past m b had.0 had.1, same_Some had.0 k (sym (grown.keeps b had.0 had.1) ∙ has))))
        (option_cases (slot_of m b))

-- one block more that is full
pub full-more : (P : ℕ → Type 0) (first c : ℕ) → ((b : ℕ) → first ≤ b → b < c → P b) → P c → (b : ℕ) → first ≤ b → b < c + 1 → P b
full-more P first c before here = λ b low high. ⊎_elim (λ same. subst P (sym same) here) (λ apart. before b low (omega arith)) (cases_eq b c)

-- a full block by equal reads
pub full-as : {told : Type 0} (l : Layout) (M : ℕ → Type 0) (b : ℕ) (m : Slots) {r r' : Sectors} → IsFull told l M m b r → (told → (p : ℕ) → r p ≡ r' p) → IsFull told l M m b r'
full-as {told} l M b m {r} {r'} (k, has, bits) same =
    (k, has, λ t i within here. sym (ap (λ x. is_set x i) (same t (place l k 0))) ∙ bits t i within here)

-- what holds on a test that is true
pub true_on : {P : Type 0} (b : Bool) → b ≡ true → OnTrue b P → P
true_on true e p = p
true_on false e p = absurd (true≢false (sym e))

-- and on one that is false
pub false_on : {P : Type 0} (b : Bool) → b ≡ false → OnFalse b P → P
false_on true e p = absurd (true≢false e)
false_on false e p = p
