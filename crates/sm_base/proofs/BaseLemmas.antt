-- The UUIDs of base images.
use Rattle.std.proofs.Common.{◌≡◌, ℕ, ◌/◌, ◌%◌, ◌<◌, ◌^◌, List, ◌∷◌, drop, w64, arith, sym, ap, ap₂, ◌∙◌}
use Rattle.std.proofs.lemmas.Nat.{from_be_bytes-to_be_bytes_8}
use Rattle.std.specs.Int.{to_be_bytes, from_be_bytes}
use Rattle.sm_base.specs.Names.{base_uuid}

-- the two high bytes of a number below 2 ^ 48 are 0
low_bytes : (n : ℕ) → n < 2 ^ 48 → 0 ∷ 0 ∷ drop 2 (to_be_bytes w64 n) ≡ to_be_bytes w64 n
low_bytes n fits =
    let first : n / 2 ^ 56 % 256 ≡ 0 = omega arith in
    let second : n / 2 ^ 48 % 256 ≡ 0 = omega arith in
    ap₂ (λ (a b : ℕ). a ∷ b ∷ drop 2 (to_be_bytes w64 n)) (sym first) (sym second)

-- each sequence number has its own
pub base_uuid-injective : (m n : ℕ) → m < 2 ^ 48 → n < 2 ^ 48 → base_uuid m ≡ base_uuid n → m ≡ n
unfolding base_uuid
base_uuid-injective m n fits_m fits_n e =
    let tails : drop 2 (to_be_bytes w64 m) ≡ drop 2 (to_be_bytes w64 n) = ap (drop 10) e in
    let bytes : to_be_bytes w64 m ≡ to_be_bytes w64 n =
    sym (low_bytes m fits_m) ∙ ap (λ (t : List ℕ). 0 ∷ 0 ∷ t) tails ∙ low_bytes n fits_n in
    sym (from_be_bytes-to_be_bytes_8 m (omega arith)) ∙ ap (from_be_bytes w64) bytes ∙ from_be_bytes-to_be_bytes_8 n (omega arith)
