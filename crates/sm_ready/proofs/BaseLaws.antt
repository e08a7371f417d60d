-- The numbers of base images, read back from their UUIDs.
use Rattle.std.proofs.Common.{◌≡◌, ◌⊎◌, inl, inr, ℕ, zero, suc, ◌≤◌, subst, ◌-◌, ◌<◌, ◌^◌, true, List, [], ◌∷◌, ◌++◌, length, take, drop, get_or, w64, refl, arith, sym, ap, ap₂, ◌∙◌, All}
use Rattle.std.specs.Int.{from_be_bytes, to_be_bytes}
use Rattle.std.proofs.lemmas.Bool.{cases_lt}
use Rattle.std.proofs.lemmas.List.{take-append-drop, length-drop}
use Rattle.std.proofs.lemmas.List.Elements.{All-get_or, All-drop}
use Rattle.std.proofs.lemmas.Nat.{be_bytes_8}
use Rattle.std.proofs.lemmas.Slice.Eq.{bytes_eq-Decides}
use Rattle.std.proofs.Math.ListN.{get_or-eq_default}
use Rattle.sm_base.specs.Names.{IsUuid, is_base, base_uuid, base_front}
use Rattle.sm_standing.specs.Entries.{base_number}

-- behind the end there are zeros
get_small : (bs : List ℕ) → All (λ b. b < 256) bs → (k : ℕ) → (k < length bs) ⊎ (length bs ≤ k) → get_or bs k 0 < 256
get_small bs all k (inl below) = All-get_or (λ b. b < 256) bs k 0 below all
get_small bs all k (inr past) = subst (λ b. b < 256) (sym (get_or-eq_default bs 0 past)) (omega arith)

-- six bytes with two zeros before them make a number below 2 ^ 48
six_bytes : (bs : List ℕ) → length bs ≡ 6 → All (λ b. b < 256) bs → from_be_bytes w64 (0 ∷ 0 ∷ bs) < 2 ^ 48
six_bytes (a ∷ b ∷ c ∷ d ∷ e ∷ f ∷ []) long small =
    let at : (i : ℕ) → i < 6 → get_or (a ∷ b ∷ c ∷ d ∷ e ∷ f ∷ []) i 0 < 256 = λ i below. All-get_or (λ b. b < 256) (a ∷ b ∷ c ∷ d ∷ e ∷ f ∷ []) i 0 below small in
    omega (arith, at 0 (omega arith), at 1 (omega arith), at 2 (omega arith), at 3 (omega arith), at 4 (omega arith), at 5 (omega arith))
six_bytes [] long small = omega (arith, long)
six_bytes (a ∷ []) long small = omega (arith, long)
six_bytes (a ∷ b ∷ []) long small = omega (arith, long)
six_bytes (a ∷ b ∷ c ∷ []) long small = omega (arith, long)
six_bytes (a ∷ b ∷ c ∷ d ∷ []) long small = omega (arith, long)
six_bytes (a ∷ b ∷ c ∷ d ∷ e ∷ []) long small = omega (arith, long)
six_bytes (a ∷ b ∷ c ∷ d ∷ e ∷ f ∷ g ∷ bs) long small = omega (arith, long)

-- the UUID of a base image is that of its number
pub base_of_number : (u : List ℕ) → IsUuid u → is_base u ≡ true → base_uuid (base_number u) ≡ u
unfolding is_base base_uuid
base_of_number u proper form =
    let bs = 0 ∷ 0 ∷ drop 10 u in
    let long : length bs ≡ 8 = ap (λ (k : ℕ). suc (suc k)) (length-drop 10 u ∙ ap (λ (k : ℕ). k - 10) proper.long) in
    let bytes : to_be_bytes w64 (from_be_bytes w64 bs) ≡ bs = be_bytes_8 bs (from_be_bytes w64 bs) long small refl in
    ap₂ (λ (a b : List ℕ). a ++ b) (sym ((bytes_eq-Decides (take 10 u) base_front).0 form)) (ap (drop 2) bytes) ∙ take-append-drop 10 u
  where
    small : (i : ℕ) → get_or (0 ∷ 0 ∷ drop 10 u) i 0 < 256
    small zero = omega arith
    small (suc zero) = omega arith
    small (suc (suc k)) = get_small (drop 10 u) (All-drop (λ b. b < 256) 10 u proper.bytes) k (cases_lt k (length (drop 10 u)))

pub base_number_fits : (u : List ℕ) → IsUuid u → base_number u < 2 ^ 48
base_number_fits u proper = six_bytes (drop 10 u) (length-drop 10 u ∙ ap (λ (k : ℕ). k - 10) proper.long) (All-drop (λ b. b < 256) 10 u proper.bytes)
