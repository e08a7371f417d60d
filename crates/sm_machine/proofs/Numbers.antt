-- Sums of extents, sizes, and sequence numbers.
use Rattle.std.proofs.Common.{◌≡◌, ℕ, ◌+◌, ◌-◌, ◌*◌, ◌/◌, ◌<◌, ◌≤◌, Bool, true, false, cond, List, [], ◌∷◌, refl, ap, ◌∙◌, arith}
use Rattle.std.specs.List.{list_any}
use Rattle.std.specs.Prelude.{◌||◌}
use Rattle.std.proofs.Common.{inl, inr}
use Rattle.std.proofs.lemmas.Nat.{le-div}
use Rattle.sm_base.specs.Numbers.{div_up, first, thin}
use Rattle.common_laws.specs.Lists.{In, insert_by}
use Rattle.sm_machine.specs.Shapes.{ImageRow, image_extents, with_image, risen, last_sequence}

extents_case : (before : ImageRow → ImageRow → Bool) (y z : ImageRow) (zs : List ImageRow) (b : Bool) → image_extents (insert_by before y zs) ≡ y.extents + image_extents zs → image_extents (cond b (y ∷ z ∷ zs) (z ∷ insert_by before y zs)) ≡ y.extents + (z.extents + image_extents zs)
unfolding image_extents
extents_case before y z zs true ih = refl
extents_case before y z zs false ih = let e : z.extents + image_extents (insert_by before y zs) ≡ y.extents + (z.extents + image_extents zs) = omega (arith, ih) in e

extents-insert : (before : ImageRow → ImageRow → Bool) (y : ImageRow) (xs : List ImageRow) → image_extents (insert_by before y xs) ≡ y.extents + image_extents xs
unfolding insert_by image_extents
extents-insert before y [] = refl
extents-insert before y (z ∷ zs) = extents_case before y z zs (before y z) (extents-insert before y zs)

-- the extents of all images with one more
pub extents-with_image : (i : ImageRow) (images : List ImageRow) → image_extents (with_image i images) ≡ i.extents + image_extents images
unfolding with_image
extents-with_image i images = extents-insert _ i images

-- a sequence number rises
pub risen-up : (n k : ℕ) → n ≤ last_sequence → n ≤ risen n k
risen-up n k h = omega arith

pub risen-last : (n k : ℕ) → risen n k ≤ last_sequence
risen-last n k = omega arith

-- no element passes
none_case : {A : Type 0} (t : A → Bool) (z : A) (zs : List A) (x : A) (b : Bool) → t z ≡ b → (list_any t zs ≡ false → In x zs → t x ≡ false) → b || list_any t zs ≡ false → In x (z ∷ zs) → t x ≡ false
none_case t z zs x true e ih q h = cc
none_case t z zs x false e ih q (inl p) = ap t p ∙ e
none_case t z zs x false e ih q (inr h) = ih q h

pub list_any-none : {A : Type 0} (t : A → Bool) (xs : List A) (x : A) → list_any t xs ≡ false → In x xs → t x ≡ false
list_any-none t [] x e h = absurd h
list_any-none t (z ∷ zs) x e h = none_case t z zs x (t z) refl (list_any-none t zs x) e h

-- a quotient rounded up is positive
pub div_up-positive : (a b : ℕ) → 0 < a → 0 < b → 0 < div_up a b
unfolding div_up
div_up-positive a b h g = let k : 1 * b ≤ a + b - 1 = omega arith in let r : 1 ≤ (a + b - 1) / b = le-div 1 (a + b - 1) b g k in r

pub thin-positive : (extent block entries slots : ℕ) → 0 < extent → 0 < thin extent block entries slots
unfolding thin
thin-positive extent block entries slots h = div_up-positive (first entries + slots * (1 + block) + 1) extent (omega arith) h
