-- Laws of booleans that the standard library lacks.
use Rattle.std.proofs.Common.{◌≡◌, ◌⊎◌, inl, inr, Bool, true, false, not, ◌&&◌, ◌||◌, refl}
use Rattle.std.proofs.lemmas.Bool.{and_from, and_left, and_right, not_from_true, not_from_false}

pub not_true : (b : Bool) → not b ≡ true → b ≡ false
not_true true h = absurd (let e = h in cc)
not_true false h = refl

pub not_false : (b : Bool) → not b ≡ false → b ≡ true
not_false true h = refl
not_false false h = absurd (let e = h in cc)

pub or_cases : (a b : Bool) → (a || b) ≡ true → (a ≡ true) ⊎ (b ≡ true)
or_cases true b h = inl refl
or_cases false b h = inr h

-- three tests of which the second fails, and three that pass
pub second_fails : (a b d : Bool) → b ≡ false → not (a && (b && d)) ≡ true
second_fails a b d h = not_from_false (a && (b && d)) (and_right a (b && d) (and_left b d h))

pub third_fails : (a b d : Bool) → d ≡ false → not (a && (b && d)) ≡ true
third_fails a b d h = not_from_false (a && (b && d)) (and_right a (b && d) (and_right b d h))

pub all_hold : (a b d : Bool) → a ≡ true → b ≡ true → d ≡ true → not (a && (b && d)) ≡ false
all_hold a b d p q r = not_from_true (a && (b && d)) (and_from a (b && d) p (and_from b d q r))
