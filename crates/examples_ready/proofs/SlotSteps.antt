-- The worked maps give slots to blocks of the disk alone, which has 16.
use Rattle.std.proofs.Common.{◌≡◌, ℕ, zero, suc, ◌<◌, ◌≤◌, ◌++◌, List, [], ◌∷◌, length, replicate, Option, Some, None, sym, ◌∙◌, arith}
use Rattle.std.proofs.lemmas.Option.{none-some}
use Rattle.vhd_map.specs.Slots.{slot_of}
use Rattle.vhd_image.proofs.TableLaws.{slot_of-blank}

-- blocks of the disk alone have slots
abbrev pub AreWithin : List (Option ℕ) → Type 0
AreWithin slots = (b slot : ℕ) → slot_of slots b ≡ Some slot → b < 16

front_below : (front : List (Option ℕ)) (rest b slot : ℕ) → slot_of (front ++ replicate rest None) b ≡ Some slot → b < length front
front_below [] rest b slot has = absurd (none-some slot (sym (slot_of-blank rest b) ∙ has))
front_below (o ∷ front) rest zero slot has = omega arith
front_below (o ∷ front) rest (suc b) slot has = let below = front_below front rest b slot has in omega (arith, below)

pub front_within : (front : List (Option ℕ)) (rest : ℕ) → length front ≤ 16 → AreWithin (front ++ replicate rest None)
front_within front rest short b slot has = let below = front_below front rest b slot has in omega (arith, below, short)
