-- The numbers of an image, and the sizes of a repository.
use Rattle.std.proofs.Common.{◌≡◌, ℕ, zero, suc, ◌+◌, ◌-◌, ◌*◌, ◌/◌, ◌%◌, ◌<◌, ◌≤◌, ◌^◌, inl, inr, arith, sym, ap, ◌∙◌, min}
use Rattle.std.proofs.lemmas.Nat.{div-mul-add, div-add-mod', mul-le}
use Rattle.std.proofs.lemmas.Bool.{cases_lt}
use Rattle.sm_base.specs.Numbers.{div_up, first, IsGeometry}

-- ---- a quotient, rounded up

rounded : (a b q r : ℕ) → r < b → q * b + r ≡ a → q + min 1 r ≡ (a + b - 1) / b
rounded a b q zero small whole =
    let e : a + b - 1 ≡ q * b + (b - 1) = omega arith in
    omega (arith, sym (ap (λ n. n / b) e ∙ div-mul-add q b (b - 1) (omega arith)))
rounded a b q (suc r) small whole =
    let e : a + b - 1 ≡ (q + 1) * b + r = omega arith in
    omega (arith, sym (ap (λ n. n / b) e ∙ div-mul-add (q + 1) b r (omega arith)))

-- std's quotient is this one
pub div_up-div_ceil : (a b : ℕ) → 0 < b → a / b + min 1 (a % b) ≡ div_up a b
unfolding div_up
div_up-div_ceil a b pos = rounded a b (a / b) (a % b) (omega arith) (div-add-mod' a b)

-- as many times b as div_up says are at least a
pub le-div_up : (a b : ℕ) → 0 < b → a ≤ div_up a b * b
unfolding div_up
le-div_up a b pos = omega (arith, div-add-mod' (a + b - 1) b)

-- and no more than are needed
pub div_up-lt : (a b : ℕ) → 0 < b → div_up a b * b < a + b
unfolding div_up
div_up-lt a b pos = omega (arith, div-add-mod' (a + b - 1) b)

-- a quotient within a whole number of times
pub div_up-le : (a b n : ℕ) → 0 < b → a ≤ n * b → div_up a b ≤ n
div_up-le a b n pos within =
    elim (cases_lt n (div_up a b)) [
      | inl over ↦ absurd (omega (arith, div_up-lt a b pos, mul-le (n + 1) b (div_up a b) b (omega arith) (omega arith)))
      | inr under ↦ under
    ]

pub div_up-pos : (a b : ℕ) → 0 < b → 0 < a → 1 ≤ div_up a b
div_up-pos a b pos some =
    elim (cases_lt 0 (div_up a b)) [
      | inl over ↦ over
      | inr none ↦ let zero_is : div_up a b ≡ 0 = omega arith in absurd (omega (arith, le-div_up a b pos, ap (λ n. n * b) zero_is))
    ]

-- ---- the first slot

pub first-ge : (entries : ℕ) → 1 ≤ entries → 4 ≤ first entries
unfolding first
first-ge entries some = omega (arith, div_up-pos entries 128 (omega arith) some)

pub first-le : (extent block entries : ℕ) → IsGeometry extent block entries → first entries ≤ 8163
unfolding first
first-le extent block entries h = omega (arith, div_up-le entries 128 8160 (omega arith) (omega (arith, h.entries_most)))

-- ---- the extents of an image

-- an image has fewer than 2 ^ 32 sectors, also with all its slots
pub image_fits : (extent block entries slots : ℕ) → IsGeometry extent block entries → slots ≤ entries
    → first entries + slots * (1 + block) + 1 < 2 ^ 32
image_fits extent block entries slots h within =
    omega (arith, first-le extent block entries h, mul-le slots (1 + block) 1044480 4097 (omega (arith, h.entries_most)) (omega (arith, h.block_most)))

-- a size within the table has no more blocks than the table has entries
pub blocks-le : (sectors block entries : ℕ) → 0 < block → sectors ≤ entries * block → div_up sectors block ≤ entries
blocks-le sectors block entries pos within = div_up-le sectors block entries pos within
