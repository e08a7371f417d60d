-- Entries as four bytes of a sector.
use Rattle.std.proofs.Common.{◌≡◌, ◌≢◌, ℕ, ◌+◌, ◌*◌, ◌^◌, ◌<◌, ◌≤◌, ◌⊎◌, List, length, get_or, set, ap, ◌∙◌, inl, inr, ⊎_elim, add-zero, arith, w32}
use Rattle.std.specs.Int.{to_be_bytes, from_be_bytes}
use Rattle.std.proofs.lemmas.Nat.{from_be_bytes-to_be_bytes_4}
use Rattle.std.proofs.lemmas.Grind.{common_steps}
use Rattle.std.proofs.lemmas.Bool.{cases_lt}
use Rattle.vhd_map.specs.Places.{word}

-- a sector with four bytes written from `at` on
abbrev pub put_four : List ℕ → ℕ → ℕ → ℕ → ℕ → ℕ → List ℕ
put_four s at a b c d = set (set (set (set s at a) (at + 1) b) (at + 2) c) (at + 3) d

get-put_four : (s : List ℕ) (at a b c d : ℕ) → at + 4 ≤ length s → (get_or (put_four s at a b c d) at 0 ≡ a) × (get_or (put_four s at a b c d) (at + 1) 0 ≡ b) × (get_or (put_four s at a b c d) (at + 2) 0 ≡ c) × (get_or (put_four s at a b c d) (at + 3) 0 ≡ d)
get-put_four s at a b c d h = (grind (arith, common_steps), grind (arith, common_steps), grind (arith, common_steps), grind (arith, common_steps))

get-put_four_other : (s : List ℕ) (at i a b c d : ℕ) → (i < at) ⊎ (at + 4 ≤ i) → get_or (put_four s at a b c d) i 0 ≡ get_or s i 0
get-put_four_other s at i a b c d h = grind (arith, common_steps)

pub word-put_same : (s : List ℕ) (j entry : ℕ) (bs : List ℕ) → bs ≡ to_be_bytes w32 entry → entry < 2 ^ 32 → 4 * j + 4 ≤ length s → word (put_four s (4 * j) (get_or bs 0 0) (get_or bs 1 0) (get_or bs 2 0) (get_or bs 3 0)) j ≡ entry
unfolding word
word-put_same s j entry bs is fits within =
    let g = get-put_four s (4 * j) (get_or bs 0 0) (get_or bs 1 0) (get_or bs 2 0) (get_or bs 3 0) within in
    let read : from_be_bytes w32 bs ≡ entry = ap (from_be_bytes w32) is ∙ from_be_bytes-to_be_bytes_4 entry fits in
    omega (arith, g.0, g.1, g.2, g.3, read)

pub word-put_other : (s : List ℕ) (j k a b c d : ℕ) → k ≢ j → word (put_four s (4 * j) a b c d) k ≡ word s k
unfolding word
word-put_other s j k a b c d apart =
    let same : (i : ℕ) → i < 4 → get_or (put_four s (4 * j) a b c d) (4 * k + i) 0 ≡ get_or s (4 * k + i) 0 = λ i h. get-put_four_other s (4 * j) (4 * k + i) a b c d (⊎_elim (λ l. inl (omega arith)) (λ g. inr (omega arith)) (cases_lt (4 * k + i) (4 * j))) in
    let first : get_or (put_four s (4 * j) a b c d) (4 * k) 0 ≡ get_or s (4 * k) 0 = rw (← add-zero (4 * k)) (same 0 (omega arith)) in
    omega (arith, first, same 1 (omega arith), same 2 (omega arith), same 3 (omega arith))
