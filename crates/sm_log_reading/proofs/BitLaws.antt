-- The bits of a log, sector by sector.
use Rattle.std.proofs.Common.{◌≡◌, ℕ, ◌+◌, ◌/◌, ◌%◌, ◌<◌, ◌≤◌, ◌≢◌, ◌⊎◌, Bool, true, false, cond, eqb, List, length, map, sym, ap, ◌∙◌, arith, inl, inr}
use Rattle.std.proofs.lemmas.Bool.{cond-true, cond-false}
use Rattle.std.proofs.lemmas.Bool.Decides.{eqb_tells}
use Rattle.std.proofs.lemmas.List.{ext_get_or}
use Rattle.sm_base.specs.Numbers.{div_up}
use Rattle.common_laws.specs.Lists.{numbers}
use Rattle.vhd_map.specs.Bitmaps.{is_set}
use Rattle.sm_log.specs.Logs.{bit, sector_bits}
use Rattle.sm_log.specs.Kept.{with_sector}
use Rattle.sm_log.proofs.ByteLaws.{bit-flags, length-flags, same_flags}
use Rattle.sm_standing.specs.Logs.{bit_in}

-- ---- flags by number

-- the same test of each number makes the same flags
pub flags_same : (f g : ℕ → Bool) (n : ℕ) → ((k : ℕ) → k < n → f k ≡ g k) → map f (numbers 0 n) ≡ map g (numbers 0 n)
flags_same f g n same =
    same_flags (map f (numbers 0 n)) (map g (numbers 0 n)) (length-flags f n ∙ sym (length-flags g n))
    (λ k within. let below : k < n = rw (length-flags f n) at within in bit-flags f n k below ∙ same k below ∙ sym (bit-flags g n k below))

-- the same sectors make the same bits
pub bits_same : (a b : ℕ → List ℕ) (n : ℕ) → ((p : ℕ) → a p ≡ b p) → map (bit_in a) (numbers 0 n) ≡ map (bit_in b) (numbers 0 n)
bits_same a b n same = flags_same (bit_in a) (bit_in b) n (λ k below. ap (λ (v : List ℕ). is_set v (k % sector_bits)) (same (1 + k / sector_bits)))

-- ---- what was read so far

-- the bits that stand in the first so many sectors of bits
abbrev pub AreReadTo : ℕ → ℕ → (ℕ → List ℕ) → List Bool → Type 0
AreReadTo pieces n sectors bits = (k : ℕ) → k < pieces → k / sector_bits < n → bit bits k ≡ bit_in sectors k

-- one sector more
pub read_more : (pieces n : ℕ) (sectors : ℕ → List ℕ) (sector : List ℕ) (bits : List Bool) → length bits ≡ pieces → sector ≡ sectors (1 + n)
    → AreReadTo pieces n sectors bits → AreReadTo pieces (n + 1) sectors (with_sector n sector bits)
read_more pieces n sectors sector bits long is so_far = λ k below within. seen k below within (eqb_tells (k / sector_bits) n)
  where
    flag : ℕ → Bool
    flag k = cond (eqb (k / sector_bits) n) (is_set sector (k % sector_bits)) (bit bits k)

    seen : (k : ℕ) → k < pieces → k / sector_bits < n + 1 → ((eqb (k / sector_bits) n ≡ true) × (k / sector_bits ≡ n)) ⊎ ((eqb (k / sector_bits) n ≡ false) × (k / sector_bits ≢ n))
        → bit (with_sector n sector bits) k ≡ bit_in sectors k
    seen k below within (inl (test, same)) =
        bit-flags flag (length bits) k (omega (arith, below, long)) ∙ cond-true (eqb (k / sector_bits) n) _ _ test
        ∙ ap (λ (v : List ℕ). is_set v (k % sector_bits)) is ∙ ap (λ (m : ℕ). is_set (sectors (1 + m)) (k % sector_bits)) (sym same)
    seen k below within (inr (test, other)) =
        bit-flags flag (length bits) k (omega (arith, below, long)) ∙ cond-false (eqb (k / sector_bits) n) _ _ test
        ∙ so_far k below (omega (arith, within, other))

pub length-with_sector : (n : ℕ) (sector : List ℕ) (bits : List Bool) → length (with_sector n sector bits) ≡ length bits
length-with_sector n sector bits = length-flags _ (length bits)

-- all sectors
pub read_all : (pieces n : ℕ) (sectors : ℕ → List ℕ) (bits : List Bool) → length bits ≡ pieces → div_up pieces sector_bits ≤ n
    → AreReadTo pieces n sectors bits → bits ≡ map (bit_in sectors) (numbers 0 pieces)
unfolding div_up
read_all pieces n sectors bits long enough so_far =
    ext_get_or false bits (map (bit_in sectors) (numbers 0 pieces)) (long ∙ sym (length-flags (bit_in sectors) pieces))
    (λ k below. so_far k (omega (arith, below, long)) (omega (arith, below, long, enough)) ∙ sym (bit-flags (bit_in sectors) pieces k (omega (arith, below, long))))
