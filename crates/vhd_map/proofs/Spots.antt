-- The arithmetic of places: products of a slot and its length stand here alone.
use Rattle.std.proofs.Common.{◌≡◌, ℕ, ◌+◌, ◌*◌, ◌%◌, ◌<◌, ◌≤◌, ap, ◌∙◌, arith}
use Rattle.std.proofs.lemmas.Nat.{same_from_place, mod-mul-add, mul-add-lt, mul-le}
use Rattle.sm_base.specs.Numbers.{first, div_up}
use Rattle.vhd_map.specs.Places.{spot, blank}

-- no part of a slot stands before the first slot
pub spot-first : (first block slot j : ℕ) → first ≤ spot first block slot j
unfolding spot
spot-first first block slot j = omega arith

-- part j stands j sectors after the bitmap
pub spot-part : (first block slot j : ℕ) → spot first block slot j ≡ spot first block slot 0 + j
unfolding spot
spot-part first block slot j = omega arith

-- each part of a slot below `slots` stands before the end of the slots
pub spot-within : (first block slot j slots end : ℕ) → slot < slots → j < 1 + block → first + slots * (1 + block) ≤ end → spot first block slot j < end
unfolding spot
spot-within first block slot j slots end below part h =
    let fits = mul-add-lt slot (1 + block) j slots below part in omega (arith, fits)

-- two parts that are one sector are one part of one slot
pub spot-same : (first block slot other i j : ℕ) → i < 1 + block → j < 1 + block → spot first block slot i ≡ spot first block other j → (slot ≡ other) × (i ≡ j)
unfolding spot
spot-same first block slot other i j within within' same = same_from_place slot i other j (1 + block) within within' (omega arith)

-- the places of this project's images, of at most 1,044,480 slots of at most 4,097 sectors, are below the blank entry
pub spot-small : (first block slot : ℕ) → first ≤ 8163 → block ≤ 4096 → slot < 1044480 → spot first block slot 0 < blank
unfolding spot
spot-small first block slot low thin few =
    let most : slot * (1 + block) ≤ 1044479 * 4097 = mul-le slot (1 + block) 1044479 4097 (omega arith) (omega arith) in omega (arith, most)

-- the first slot of such an image begins at most at sector 8,163
pub first-most : (entries : ℕ) → entries ≤ 1044480 → first entries ≤ 8163
unfolding first div_up
first-most entries few = omega arith

-- a slot's bitmap stands a whole number of slots after the first slot
pub spot-stride : (first block slot after : ℕ) → spot first block slot 0 ≡ first + after → after % (1 + block) ≡ 0
unfolding spot
spot-stride first block slot after same =
    let product : after ≡ slot * (1 + block) + 0 = omega arith in
    ap (λ (n : ℕ). n % (1 + block)) product ∙ mod-mul-add slot (1 + block) 0 (omega arith)
