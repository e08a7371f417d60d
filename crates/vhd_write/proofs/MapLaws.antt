-- The map while blocks are given slots, one after another.
use Rattle.std.proofs.Common.{◌≡◌, ◌≢◌, ℕ, ◌+◌, ◌-◌, ◌<◌, ◌≤◌, true, cond, List, [], ◌∷◌, length, set, Option, Some, None, zero, suc, is_some, refl, sym, ap, ◌∙◌, subst, inl, inr, ⊎_elim, arith, length-set, get_or-set_other}
use Rattle.std.specs.Prelude.{slice_set}
use Rattle.std.proofs.lemmas.Bool.{cases_eq}
use Rattle.std.proofs.lemmas.Option.{none-some, same_Some}
use Rattle.std.proofs.lemmas.List.Sums.{sum_by-set}
use Rattle.vhd_map.specs.Slots.{slot_of, is_used, used_count, top_of, least_free_slot, IsMap}
use Rattle.vhd_map.proofs.SlotLemmas.{slot_of-within, is_used-from_block, block_of_used, slot_of-set_same, slot_of-set_other, used_count-set, used_count-le, top_of-past, IsMap-set, least_free_slot-free, least_free_slot-used}
use Rattle.vhd_layout.proofs.ImageLaws.{option_cases}
use Rattle.vhd_volumes.specs.Writes.{with_block, with_blocks, HasGrown}
use Rattle.vhd_write.specs.Spans.{Given}

-- ---- a map with a block that has no slot has a free slot

-- an entry is emptied
slot_of-clear_other : (m : List (Option ℕ)) (b c : ℕ) → c ≢ b → slot_of (set m b None) c ≡ slot_of m c
slot_of-clear_other m b c apart = get_or-set_other m b c None None apart

used_count-clear : (m : List (Option ℕ)) (b k : ℕ) → slot_of m b ≡ Some k → used_count (set m b None) + 1 ≡ used_count m
used_count-clear m b k has =
    let one : Option ℕ → ℕ = λ o. cond (is_some o) 1 0 in
    let step = sum_by-set one m b None None (slot_of-within m b k has) in
    let here : one (slot_of m b) ≡ 1 = ap one has in omega (arith, step, here)

-- where all slots below n are in use there are n of them
used_below : (n : ℕ) (m : List (Option ℕ)) → ((k : ℕ) → k < n → is_used m k ≡ true) → n ≤ used_count m
used_below zero m used = omega arith
used_below (suc n) m used =
    let found = block_of_used m n (used n (omega arith)) in
    let rest = used_below n (set m found.0 None) (λ k below.
    let other = block_of_used m k (used k (omega arith)) in
    let apart : other.0 ≢ found.0 = λ e. omega (arith, same_Some k n (sym other.1 ∙ (ap (slot_of m) e ∙ found.1))) in
    is_used-from_block (set m found.0 None) other.0 k (slot_of-clear_other m found.0 other.0 apart ∙ other.1)) in
    omega (arith, rest, used_count-clear m found.0 n found.1)

pub least-below : (m : List (Option ℕ)) (b : ℕ) → slot_of m b ≡ None → b < length m → least_free_slot m < length m
least-below m b without within =
    let full = used_below (least_free_slot m) m (λ k below. least_free_slot-used m k below) in
    let more = used_count-set m b 0 within without in
    let most = used_count-le (set m b (Some 0)) in
    omega (arith, full, more, most, length-set m b (Some 0))

-- ---- one block

given : ℕ → List (Option ℕ) → Option ℕ → List (Option ℕ)
given b m o = elim o [ None ↦ slice_set m b (Some (least_free_slot m)) | Some slot ↦ m ]

with_block-given : (b : ℕ) (m : List (Option ℕ)) → with_block b m ≡ given b m (slot_of m b)
unfolding with_block given
with_block-given b m = refl

pub with_block-held : (b : ℕ) (m : List (Option ℕ)) (k : ℕ) → slot_of m b ≡ Some k → with_block b m ≡ m
unfolding given
with_block-held b m k has = with_block-given b m ∙ ap (given b m) has

pub with_block-new : (b : ℕ) (m : List (Option ℕ)) → slot_of m b ≡ None → with_block b m ≡ set m b (Some (least_free_slot m))
unfolding given
with_block-new b m none = with_block-given b m ∙ ap (given b m) none

-- what it does to the map
pub record Gives (b : ℕ) (m n : List (Option ℕ)) : Type 0 where
  pub grown : HasGrown m n
  pub others : (c : ℕ) → c ≢ b → slot_of n c ≡ slot_of m c

gives-same : (b : ℕ) (m : List (Option ℕ)) → Gives b m m
gives-same b m = record { grown = record { long = refl; keeps = λ c k has. has }; others = λ c apart. refl }

gives-set : (b : ℕ) (m : List (Option ℕ)) (k : ℕ) → slot_of m b ≡ None → Gives b m (set m b (Some k))
gives-set b m k none = record {
  grown = record {
    long = length-set m b (Some k);
    keeps = λ c j has. slot_of-set_other m b k c (λ e. none-some j (sym none ∙ (sym (ap (slot_of m) e) ∙ has))) ∙ has;
  };
  others = λ c apart. slot_of-set_other m b k c apart;
}

pub with_block-gives : (b : ℕ) (m : List (Option ℕ)) → Gives b m (with_block b m)
with_block-gives b m = ⊎_elim
    (λ none. subst (Gives b m) (sym (with_block-new b m none)) (gives-set b m (least_free_slot m) none))
    (λ has. subst (Gives b m) (sym (with_block-held b m has.0 has.1)) (gives-same b m))
    (option_cases (slot_of m b))

pub with_block-good : (b : ℕ) (m : List (Option ℕ)) → IsMap m → b < length m → IsMap (with_block b m)
with_block-good b m good within = ⊎_elim
    (λ none. subst IsMap (sym (with_block-new b m none)) (IsMap-set m b (least_free_slot m) good within (least_free_slot-free m good) (least-below m b none within)))
    (λ has. subst IsMap (sym (with_block-held b m has.0 has.1)) good)
    (option_cases (slot_of m b))

pub with_block-has : (b : ℕ) (m : List (Option ℕ)) → b < length m → (k : ℕ) × (slot_of (with_block b m) b ≡ Some k)
with_block-has b m within = ⊎_elim
    (λ none. (least_free_slot m, ap (λ n. slot_of n b) (with_block-new b m none) ∙ slot_of-set_same m b (least_free_slot m) within))
    (λ has. (has.0, ap (λ n. slot_of n b) (with_block-held b m has.0 has.1) ∙ has.1))
    (option_cases (slot_of m b))

-- ---- several blocks

pub grown-none : (m : List (Option ℕ)) → HasGrown m m
grown-none m = record { long = refl; keeps = λ b k has. has }

pub grown-then : {a b c : List (Option ℕ)} → HasGrown a b → HasGrown b c → HasGrown a c
grown-then {a} {b} {c} f g = record { long = g.long ∙ f.long; keeps = λ i k has. g.keeps i k (f.keeps i k has) }

pub with_blocks-none : (b : ℕ) (m : List (Option ℕ)) → with_blocks b 0 m ≡ m
unfolding with_blocks
with_blocks-none b m = refl

with_blocks-step : (b n : ℕ) (m : List (Option ℕ)) → with_blocks b (suc n) m ≡ with_blocks (suc b) n (with_block b m)
unfolding with_blocks
with_blocks-step b n m = refl

-- one block more
pub with_blocks-more : (b n : ℕ) (m : List (Option ℕ)) → with_blocks b (n + 1) m ≡ with_block (b + n) (with_blocks b n m)
with_blocks-more b zero m = ap (λ k. with_blocks b k m) (let e : zero + 1 ≡ suc zero = omega arith in e) ∙ (with_blocks-step b zero m ∙ (with_blocks-none (suc b) (with_block b m) ∙ (ap (λ k. with_block k m) (let e : b ≡ b + zero = omega arith in e) ∙ ap (with_block (b + zero)) (sym (with_blocks-none b m)))))
with_blocks-more b (suc n) m =
    let one : suc n + 1 ≡ suc (n + 1) = omega arith in
    let place : suc b + n ≡ b + suc n = omega arith in
    ap (λ k. with_blocks b k m) one
    ∙ (with_blocks-step b (n + 1) m
    ∙ (with_blocks-more (suc b) n (with_block b m)
    ∙ (ap (λ k. with_block k (with_blocks (suc b) n (with_block b m))) place
    ∙ ap (with_block (b + suc n)) (sym (with_blocks-step b n m)))))

-- so many blocks and so many more
pub with_blocks-add : (b n j : ℕ) (m : List (Option ℕ)) → HasGrown (with_blocks b n m) (with_blocks b (n + j) m)
with_blocks-add b n zero m = subst (λ k. HasGrown (with_blocks b n m) (with_blocks b k m)) (let e : n ≡ n + zero = omega arith in e) (grown-none (with_blocks b n m))
with_blocks-add b n (suc j) m =
    let e : n + j + 1 ≡ n + suc j = omega arith in
    grown-then (with_blocks-add b n j m) (subst (λ k. HasGrown (with_blocks b (n + j) m) (with_blocks b k m)) e
    (subst (HasGrown (with_blocks b (n + j) m)) (sym (with_blocks-more b (n + j) m)) (with_block-gives (b + (n + j)) (with_blocks b (n + j) m)).grown))

pub given-none : (b : ℕ) (m : List (Option ℕ)) → IsMap m → Given b b m m
given-none b m good = record {
  is = sym (with_blocks-none b m) ∙ ap (λ k. with_blocks b k m) (let e : 0 ≡ b - b = omega arith in e);
  grown = grown-none m;
  good = good;
  has = λ c low high. absurd (omega arith);
  others = λ c away. refl;
}

pub given-more : (b c : ℕ) (m n : List (Option ℕ)) → b ≤ c → c < length m → Given b c m n → Given b (c + 1) m (with_block c n)
given-more b c m n low within g = record {
  is = ap (with_block c) g.is ∙ (ap (λ k. with_block k (with_blocks b (c - b) m)) place ∙ (sym (with_blocks-more b (c - b) m) ∙ ap (λ k. with_blocks b k m) count));
  grown = grown-then g.grown step.grown;
  good = with_block-good c n g.good (omega (arith, g.grown.long));
  has = λ d from to. ⊎_elim (λ e. let h = with_block-has c n (omega (arith, g.grown.long)) in (h.0, ap (slot_of (with_block c n)) e ∙ h.1)) (λ apart. let h = g.has d from (omega arith) in (h.0, step.others d apart ∙ h.1)) (cases_eq d c);
  others = λ d away. step.others d (⊎_elim (λ h e. omega arith) (λ h e. omega arith) away) ∙ g.others d (⊎_elim (λ h. inl h) (λ h. inr (omega arith)) away);
}
  where
    step : Gives c n (with_block c n)
    step = with_block-gives c n

    place : c ≡ b + (c - b)
    place = omega arith

    count : c - b + 1 ≡ c + 1 - b
    count = omega arith

-- the map with fewer blocks is within that with more
pub given-to : (b c end : ℕ) (m n : List (Option ℕ)) → b ≤ c → c ≤ end → Given b c m n → HasGrown n (with_blocks b (end - b) m)
given-to b c end m n low high g =
    let e : c - b + (end - c) ≡ end - b = omega arith in
    subst (λ x. HasGrown x (with_blocks b (end - b) m)) (sym g.is) (subst (λ k. HasGrown (with_blocks b (c - b) m) (with_blocks b k m)) e (with_blocks-add b (c - b) (end - c) m))

top_of-below : (m : List (Option ℕ)) (n : ℕ) → ((block slot : ℕ) → slot_of m block ≡ Some slot → slot < n) → top_of m ≤ n
top_of-below [] n below = omega arith
top_of-below (None ∷ m) n below = let rest = top_of-below m n (λ block slot has. below (suc block) slot has) in omega (arith, rest)
top_of-below (Some k ∷ m) n below =
    let rest = top_of-below m n (λ block slot has. below (suc block) slot has) in
    let first = below 0 k refl in omega (arith, rest, first)

pub top-grown : {m n : List (Option ℕ)} → HasGrown m n → top_of m ≤ top_of n
top-grown {m} {n} g = top_of-below m (top_of n) (λ b k has. top_of-past n b k (g.keeps b k has))

-- where all have slots the map stays
pub with_blocks-held : (b n : ℕ) (m : List (Option ℕ)) → ((c : ℕ) → b ≤ c → c < b + n → (k : ℕ) × (slot_of m c ≡ Some k)) → with_blocks b n m ≡ m
with_blocks-held b zero m has = with_blocks-none b m
with_blocks-held b (suc n) m has =
    let here = has b (omega arith) (omega arith) in
    with_blocks-step b n m ∙ (ap (with_blocks (suc b) n) (with_block-held b m here.0 here.1) ∙ with_blocks-held (suc b) n m (λ c low high. has c (omega arith) (omega arith)))
