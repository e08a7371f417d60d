-- Sectors that have a log's head and its bits are read as that log.
use Rattle.std.proofs.Common.{◌≡◌, ℕ, zero, suc, ◌+◌, ◌-◌, ◌*◌, ◌/◌, ◌%◌, ◌<◌, Bool, true, false, eqb, List, [], ◌∷◌, length, drop, get_or, refl, ap, ◌∙◌, arith}
use Rattle.std.specs.Int.{bit_at}
use Rattle.std.proofs.lemmas.List.{drop-drop, get_or-drop}
use Rattle.sm_base.specs.Numbers.{div_up}
use Rattle.vhd_map.specs.Bitmaps.{is_set}
use Rattle.sm_log.specs.Coded.{byte_of, one_if, packed}
use Rattle.sm_log.specs.Heads.{IsHead, head_in}
use Rattle.sm_log.specs.Logs.{Log, bit, log_sectors}
use Rattle.sm_log.proofs.HeadLaws.{again}
use Rattle.sm_cbt.specs.Making.{AreOf, Spells, head_of}

-- ---- a bit of a byte

one_flag : (b : Bool) → eqb (one_if b) 1 ≡ b
one_flag true = refl
one_flag false = refl

one_low : (b : Bool) → one_if b < 2
one_low true = omega arith
one_low false = omega arith

-- the digits of a number of eight bits
digit : (a b c d e f g h : ℕ) → a < 2 → b < 2 → c < 2 → d < 2 → e < 2 → f < 2 → g < 2 → h < 2 → (r : ℕ) → r < 8
    → bit_at (128 * a + 64 * b + 32 * c + 16 * d + 8 * e + 4 * f + 2 * g + h) (7 - r) ≡ get_or (a ∷ b ∷ c ∷ d ∷ e ∷ f ∷ g ∷ h ∷ []) r 0
digit a b c d e f g h la lb lc ld le lf lg lh zero w = omega arith
digit a b c d e f g h la lb lc ld le lf lg lh (suc zero) w = omega arith
digit a b c d e f g h la lb lc ld le lf lg lh (suc (suc zero)) w = omega arith
digit a b c d e f g h la lb lc ld le lf lg lh (suc (suc (suc zero))) w = omega arith
digit a b c d e f g h la lb lc ld le lf lg lh (suc (suc (suc (suc zero)))) w = omega arith
digit a b c d e f g h la lb lc ld le lf lg lh (suc (suc (suc (suc (suc zero))))) w = omega arith
digit a b c d e f g h la lb lc ld le lf lg lh (suc (suc (suc (suc (suc (suc zero)))))) w = omega arith
digit a b c d e f g h la lb lc ld le lf lg lh (suc (suc (suc (suc (suc (suc (suc zero))))))) w = omega arith
digit a b c d e f g h la lb lc ld le lf lg lh (suc (suc (suc (suc (suc (suc (suc (suc r)))))))) w = absurd (omega arith)

nth : (xs : List Bool) (r : ℕ) → r < 8
    → get_or (one_if (bit xs 0) ∷ one_if (bit xs 1) ∷ one_if (bit xs 2) ∷ one_if (bit xs 3) ∷ one_if (bit xs 4) ∷ one_if (bit xs 5) ∷ one_if (bit xs 6) ∷ one_if (bit xs 7) ∷ []) r 0 ≡ one_if (bit xs r)
nth xs zero w = refl
nth xs (suc zero) w = refl
nth xs (suc (suc zero)) w = refl
nth xs (suc (suc (suc zero))) w = refl
nth xs (suc (suc (suc (suc zero)))) w = refl
nth xs (suc (suc (suc (suc (suc zero))))) w = refl
nth xs (suc (suc (suc (suc (suc (suc zero)))))) w = refl
nth xs (suc (suc (suc (suc (suc (suc (suc zero))))))) w = refl
nth xs (suc (suc (suc (suc (suc (suc (suc (suc r)))))))) w = absurd (omega arith)

byte_bit : (xs : List Bool) (r : ℕ) → r < 8 → eqb (bit_at (byte_of xs) (7 - r)) 1 ≡ bit xs r
byte_bit xs r w =
    ap (λ (x : ℕ). eqb x 1) (digit _ _ _ _ _ _ _ _ (one_low (bit xs 0)) (one_low (bit xs 1)) (one_low (bit xs 2)) (one_low (bit xs 3)) (one_low (bit xs 4)) (one_low (bit xs 5)) (one_low (bit xs 6)) (one_low (bit xs 7)) r w ∙ nth xs r w)
    ∙ one_flag (bit xs r)

-- ---- a bit of packed bytes

byte_at : (n i : ℕ) (xs : List Bool) → i < n → get_or (packed n xs) i 0 ≡ byte_of (drop (8 * i) xs)
unfolding packed
byte_at zero i xs w = absurd (omega arith)
byte_at (suc n) zero xs w = refl
byte_at (suc n) (suc i) xs w =
    let z : 8 + 8 * i ≡ 8 * suc i = omega arith in
    byte_at n i (drop 8 xs) (omega arith) ∙ ap byte_of (drop-drop (8 * i) 8 xs ∙ ap (λ (k : ℕ). drop k xs) z)

pub packed_bit : (n k : ℕ) (xs : List Bool) → k < 8 * n → is_set (packed n xs) k ≡ bit xs k
unfolding is_set
packed_bit n k xs w =
    let z : 8 * (k / 8) + k % 8 ≡ k = omega arith in
    ap (λ (x : ℕ). eqb (bit_at x (7 - k % 8)) 1) (byte_at n (k / 8) xs (omega arith))
    ∙ byte_bit (drop (8 * (k / 8)) xs) (k % 8) (omega arith)
    ∙ get_or-drop (8 * (k / 8)) xs (k % 8) false ∙ ap (bit xs) z

-- ---- a log

-- the sector with a piece's bit
in_sectors : (n k : ℕ) → k < n → k / 4096 < div_up n 4096
unfolding div_up
in_sectors n k w = omega arith

bit_written : (l : Log) (sectors : ℕ → List ℕ) → AreOf l sectors → (k : ℕ) → k < length l.bits → is_set (sectors (1 + k / 4096)) (k % 4096) ≡ bit l.bits k
bit_written l sectors are k w =
    let z : 4096 * (k / 4096) + k % 4096 ≡ k = omega arith in
    ap (λ (s : List ℕ). is_set s (k % 4096)) (are.bits (k / 4096) (in_sectors (length l.bits) k w))
    ∙ packed_bit 512 (k % 4096) (drop (4096 * (k / 4096)) l.bits) (omega arith)
    ∙ get_or-drop (4096 * (k / 4096)) l.bits (k % 4096) false ∙ ap (bit l.bits) z

pub spells_it : (l : Log) (sectors : ℕ → List ℕ) → AreOf l sectors → IsHead (head_of l) → Spells l sectors
spells_it l sectors are fits = record { head = ap head_in are.head ∙ again (head_of l) fits; bits = bit_written l sectors are }

-- what is read as a log is so where the log's sectors are the same
pub spells_same : (l : Log) (f h : ℕ → List ℕ) → ((q : ℕ) → q < log_sectors (length l.bits) → h q ≡ f q) → Spells l f → Spells l h
spells_same l f h same s = record {
  head = ap head_in (same 0 (omega arith)) ∙ s.head;
  bits = λ k w.
      let low = in_sectors (length l.bits) k w in
      ap (λ (x : List ℕ). is_set x (k % 4096)) (same (1 + k / 4096) (omega (arith, low))) ∙ s.bits k w;
}
