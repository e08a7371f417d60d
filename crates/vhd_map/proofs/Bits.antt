-- A bit that is set in one byte or word of a list.
use Rattle.std.proofs.Common.{◌≡◌, ◌≢◌, ℕ, ◌+◌, ◌-◌, ◌*◌, ◌/◌, ◌%◌, ◌^◌, ◌<◌, ◌⊎◌, true, false, eqb, List, length, get_or, set, replicate, bit_or, refl, sym, ap, ◌∙◌, inl, inr, ⊎_elim, ap₂, eq-eqb, arith, w8, w64, get_or-set_same, get_or-set_other}
use Rattle.std.specs.Int.{bit_at, trailing_ones}
use Rattle.std.proofs.lemmas.Nat.Bits.{bit_at_set_same, bit_at_set_other, bit_at-zero, bit_at_ones, bit_at-trailing_ones}
use Rattle.std.proofs.lemmas.Bool.{cases_eq, cases_lt, true≢false, ne_eqb}
use Rattle.std.proofs.lemmas.List.{get_or-replicate, get_or_past, length-replicate}
use Rattle.vhd_map.specs.Bitmaps.{is_set}
use Rattle.vhd_map.specs.Words.{is_marked}

-- element i of a list with bit k set there
abbrev with_bit : ℕ → List ℕ → ℕ → ℕ → List ℕ
with_bit size xs i k = set xs i (bit_or (get_or xs i 0) (1 * 2 ^ k % size))

pub is_set-set_same : (map : List ℕ) (i : ℕ) → i / 8 < length map → is_set (with_bit 256 map (i / 8) (7 - i % 8)) i ≡ true
unfolding is_set
is_set-set_same map i within =
    eq-eqb _ 1 (rw get_or-set_same (bit_at_set_same w8 (get_or map (i / 8) 0) (7 - i % 8) (omega arith)))

pub is_set-set_other : (map : List ℕ) (i j : ℕ) → i / 8 < length map → j ≢ i → is_set (with_bit 256 map (i / 8) (7 - i % 8)) j ≡ is_set map j
unfolding is_set
is_set-set_other map i j within apart = ap (λ (x : ℕ). eqb x 1) (go (cases_eq (j / 8) (i / 8)))
  where
    go : (j / 8 ≡ i / 8) ⊎ (j / 8 ≡ i / 8 → ⊥) → bit_at (get_or (with_bit 256 map (i / 8) (7 - i % 8)) (j / 8) 0) (7 - j % 8) ≡ bit_at (get_or map (j / 8) 0) (7 - j % 8)
    go (inl e) = rw (e, get_or-set_same) (bit_at_set_other w8 (get_or map (i / 8) 0) (7 - i % 8) (omega arith) (7 - j % 8) (omega arith))
    go (inr ne) = let far : j / 8 ≢ i / 8 = ne in rw get_or-set_other refl

pub is_marked-set_same : (words : List ℕ) (slot : ℕ) → slot / 64 < length words → is_marked (with_bit (2 ^ 64) words (slot / 64) (slot % 64)) slot ≡ true
unfolding is_marked
is_marked-set_same words slot within =
    eq-eqb _ 1 (rw get_or-set_same (bit_at_set_same w64 (get_or words (slot / 64) 0) (slot % 64) (omega arith)))

pub is_marked-set_other : (words : List ℕ) (slot j : ℕ) → slot / 64 < length words → j ≢ slot → is_marked (with_bit (2 ^ 64) words (slot / 64) (slot % 64)) j ≡ is_marked words j
unfolding is_marked
is_marked-set_other words slot j within apart = ap (λ (x : ℕ). eqb x 1) (go (cases_eq (j / 64) (slot / 64)))
  where
    go : (j / 64 ≡ slot / 64) ⊎ (j / 64 ≡ slot / 64 → ⊥) → bit_at (get_or (with_bit (2 ^ 64) words (slot / 64) (slot % 64)) (j / 64) 0) (j % 64) ≡ bit_at (get_or words (j / 64) 0) (j % 64)
    go (inl e) = rw (e, get_or-set_same) (bit_at_set_other w64 (get_or words (slot / 64) 0) (slot % 64) (omega arith) (j % 64) (omega arith))
    go (inr ne) = let far : j / 64 ≢ slot / 64 = ne in rw get_or-set_other refl

-- the bits of words of zeros
pub is_marked-replicate : (n slot : ℕ) → is_marked (replicate {A = ℕ} n 0) slot ≡ false
unfolding is_marked
is_marked-replicate n slot = ap (λ (x : ℕ). eqb (bit_at x (slot % 64)) 1) (get_or-zeros n (slot / 64)) ∙ ap (λ (x : ℕ). eqb x 1) (bit_at-zero (slot % 64))
  where
    get_or-zeros : (n i : ℕ) → get_or (replicate {A = ℕ} n 0) i 0 ≡ 0
    get_or-zeros n i = ⊎_elim (λ within. get_or-replicate n i 0 0 within) (λ past. get_or_past (replicate {A = ℕ} n 0) i 0 (rw (length-replicate {A = ℕ} n 0) past)) (cases_lt i n)

-- a word with a bit that is not set is not all ones
pub not_full : (words : List ℕ) (slot : ℕ) → is_marked words slot ≡ false → get_or words (slot / 64) 0 ≢ 2 ^ 64 - 1
unfolding is_marked
not_full words slot unset full =
    true≢false (sym (eq-eqb _ 1 (ap (λ (x : ℕ). bit_at x (slot % 64)) full ∙ bit_at_ones 64 (slot % 64) (omega arith))) ∙ unset)

-- the place of the lowest 0 of a word, in the list of words: its bit is not set, and each bit below it in the word is
pub is_marked-lowest : (words : List ℕ) (w : ℕ) → get_or words w 0 < 2 ^ 64 → get_or words w 0 ≢ 2 ^ 64 - 1 → is_marked words (w * 64 + trailing_ones w64 (get_or words w 0)) ≡ false
unfolding is_marked
is_marked-lowest words w fits room =
    let n = get_or words w 0 in
    let found = bit_at-trailing_ones w64 n (omega arith) in
    let t = trailing_ones w64 n in
    let in_word : (w * 64 + t) / 64 ≡ w = omega (arith, found.0) in
    let in_bit : (w * 64 + t) % 64 ≡ t = omega (arith, found.0) in
    ne_eqb _ 1 (λ set. let zero : bit_at n t ≡ 0 = found.1 in
    let one : bit_at n t ≡ 1 = sym (ap₂ (λ (x y : ℕ). bit_at (get_or words x 0) y) in_word in_bit) ∙ set in omega (arith, zero, one))

pub is_marked-below_lowest : (words : List ℕ) (w slot : ℕ) → get_or words w 0 < 2 ^ 64 → get_or words w 0 ≢ 2 ^ 64 - 1 → slot / 64 ≡ w → slot < w * 64 + trailing_ones w64 (get_or words w 0) → is_marked words slot ≡ true
unfolding is_marked
is_marked-below_lowest words w slot fits room at below =
    let n = get_or words w 0 in
    let found = bit_at-trailing_ones w64 n (omega arith) in
    eq-eqb _ 1 (ap (λ (x : ℕ). bit_at (get_or words x 0) (slot % 64)) at ∙ found.2 (slot % 64) (omega arith))

-- each bit of a full word is set
pub is_marked-full : (words : List ℕ) (slot : ℕ) → get_or words (slot / 64) 0 ≡ 2 ^ 64 - 1 → is_marked words slot ≡ true
unfolding is_marked
is_marked-full words slot full =
    eq-eqb _ 1 (ap (λ (x : ℕ). bit_at x (slot % 64)) full ∙ bit_at_ones 64 (slot % 64) (omega arith))
