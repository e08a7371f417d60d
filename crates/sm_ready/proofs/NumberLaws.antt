-- An extent is a whole number of blocks, and a base image's UUID has the number that it was made from.
use Rattle.std.proofs.Common.{◌≡◌, ◌⊎◌, inl, inr, ℕ, zero, suc, ◌+◌, ◌-◌, ◌*◌, ◌/◌, ◌%◌, ◌^◌, ◌<◌, ◌≤◌, true, ◌∷◌, drop, w64, refl, sym, ap, ap₂, ◌∙◌, subst, arith, IsTrue, count_ones}
use Rattle.std.proofs.lemmas.Bool.{cases_lt, eqb-true}
use Rattle.std.proofs.lemmas.Nat.{from_be_bytes-to_be_bytes_8, ones_le_self, zero_from_ones, pow-add, pow_pos}
use Rattle.std.proofs.Math.Pow.{pow_mono}
use Rattle.std.proofs.lemmas.Slice.Eq.{bytes_eq-Decides}
use Rattle.std.specs.Int.{is_power_of_two, from_be_bytes, to_be_bytes}
use Rattle.std.specs.Int.Count.{ones_step}
use Rattle.sm_base.specs.Names.{base_uuid, base_front, is_base}
use Rattle.sm_standing.specs.Entries.{base_number}

-- ---- powers of two

-- a number of which one digit is set
power : (most n : ℕ) → n ≤ most → count_ones n ≡ 1 → (k : ℕ) × (n ≡ 2 ^ k)
power zero n below one = absurd (omega (arith, below, one, ones_le_self n))
power (suc most) n below one = by (λ half. power most (n / 2) (omega (arith, below)) half) (cases_lt (n % 2) 1)
  where
    by : (count_ones (n / 2) ≡ 1 → (k : ℕ) × (n / 2 ≡ 2 ^ k)) → (n % 2 < 1) ⊎ (1 ≤ n % 2) → (k : ℕ) × (n ≡ 2 ^ k)
    by rest (inl even) =
        let w = rest (omega (arith, ones_step n, one, even)) in
        (suc w.0, let twice : 2 ^ suc w.0 ≡ 2 * 2 ^ w.0 = omega arith in omega (arith, w.1, even, twice))
    by rest (inr odd) =
        let none : n / 2 ≡ 0 = zero_from_ones (n / 2) (omega (arith, ones_step n, one, odd)) in
        (0, omega (arith, none, odd))

powers : (a b : ℕ) → 2 ^ b ≤ 2 ^ a → (a < b) ⊎ (b ≤ a) → (m : ℕ) × (2 ^ a ≡ m * 2 ^ b)
powers a b within (inl less) =
    let twice : 2 ^ suc a ≡ 2 * 2 ^ a = omega arith in
    let more : 2 ^ suc a ≤ 2 ^ b = pow_mono less in
    absurd (omega (arith, twice, more, within, pow_pos a))
powers a b within (inr least) = (2 ^ (a - b), ap (λ k. 2 ^ k) (let e : a ≡ a - b + b = omega (arith, least) in e) ∙ pow-add 2 (a - b) b)

pub whole_blocks : (extent block : ℕ) → IsTrue (is_power_of_two extent) → IsTrue (is_power_of_two block) → block ≤ extent → (m : ℕ) × (extent ≡ m * block)
whole_blocks extent block e b within =
    let x = power extent extent (omega arith) (eqb-true (count_ones extent) 1 e) in
    let y = power block block (omega arith) (eqb-true (count_ones block) 1 b) in
    let w = powers x.0 y.0 (subst (λ n. n ≤ 2 ^ x.0) y.1 (subst (λ n. block ≤ n) x.1 within)) (cases_lt x.0 y.0) in
    (w.0, x.1 ∙ w.1 ∙ ap (λ n. w.0 * n) (sym y.1))

-- ---- base images

low_bytes : (n : ℕ) → n < 2 ^ 48 → 0 ∷ 0 ∷ drop 2 (to_be_bytes w64 n) ≡ to_be_bytes w64 n
low_bytes n fits =
    let first : n / 2 ^ 56 % 256 ≡ 0 = omega arith in
    let second : n / 2 ^ 48 % 256 ≡ 0 = omega arith in
    ap₂ (λ (a b : ℕ). a ∷ b ∷ drop 2 (to_be_bytes w64 n)) (sym first) (sym second)

pub number_of_base : (n : ℕ) → n < 2 ^ 48 → base_number (base_uuid n) ≡ n
unfolding base_uuid
number_of_base n fits = ap (from_be_bytes w64) (low_bytes n fits) ∙ from_be_bytes-to_be_bytes_8 n (omega (arith, fits))

pub is_base_of : (n : ℕ) → is_base (base_uuid n) ≡ true
unfolding base_uuid is_base
is_base_of n = (bytes_eq-Decides base_front base_front).1 refl
