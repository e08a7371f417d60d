-- Bits that are set, and bits of two lists together.
use Rattle.std.proofs.Common.{◌≡◌, ◌≢◌, ℕ, zero, suc, ◌<◌, ◌≤◌, ◌||◌, Bool, true, false, List, [], ◌∷◌, length, refl, sym, ap, ◌∙◌, inl, inr, arith, subst}
use Rattle.std.specs.List.{slice_set}
use Rattle.common_laws.specs.Lists.{In}
use Rattle.sm_log.specs.Logs.{Log, bit, marked, either, united}

or_none : (a : Bool) → a ≡ (a || false)
or_none true = refl
or_none false = refl

-- a bit of two lists together is set where it is in one of them
pub bit-either : (xs ys : List Bool) (k : ℕ) → bit (either xs ys) k ≡ (bit xs k || bit ys k)
unfolding either
bit-either [] ys k = refl
bit-either (a ∷ xs) [] k = or_none (bit (a ∷ xs) k)
bit-either (a ∷ xs) (b ∷ ys) zero = refl
bit-either (a ∷ xs) (b ∷ ys) (suc k) = bit-either xs ys k

-- setting a bit leaves those that were set
set-keeps : (bits : List Bool) (j k : ℕ) → bit bits k ≡ true → bit (slice_set bits j true) k ≡ true
set-keeps [] j k h = h
set-keeps (b ∷ bits) zero zero h = refl
set-keeps (b ∷ bits) zero (suc k) h = h
set-keeps (b ∷ bits) (suc j) zero h = h
set-keeps (b ∷ bits) (suc j) (suc k) h = set-keeps bits j k h

set-sets : (bits : List Bool) (k : ℕ) → k < length bits → bit (slice_set bits k true) k ≡ true
set-sets [] k w = absurd (omega arith)
set-sets (b ∷ bits) zero w = refl
set-sets (b ∷ bits) (suc k) w = set-sets bits k (omega arith)

set-long : (bits : List Bool) (k : ℕ) → length (slice_set bits k true) ≡ length bits
set-long [] k = refl
set-long (b ∷ bits) zero = refl
set-long (b ∷ bits) (suc k) = ap suc (set-long bits k)

-- what was set stays set
pub marked-keeps : (ks : List ℕ) (bits : List Bool) (k : ℕ) → bit bits k ≡ true → bit (marked ks bits) k ≡ true
unfolding marked
marked-keeps [] bits k h = h
marked-keeps (j ∷ ks) bits k h = marked-keeps ks (slice_set bits j true) k (set-keeps bits j k h)

-- each of these is set, where it is within the list
pub marked-sets : (ks : List ℕ) (bits : List Bool) (k : ℕ) → In k ks → k < length bits → bit (marked ks bits) k ≡ true
unfolding marked
marked-sets [] bits k h w = absurd h
marked-sets (j ∷ ks) bits k (inl e) w = marked-keeps ks (slice_set bits j true) k
    (subst (λ i. bit (slice_set bits i true) k ≡ true) e (set-sets bits k w))
marked-sets (j ∷ ks) bits k (inr h) w = marked-sets ks (slice_set bits j true) k h (rw set-long w)

pub marked-long : (ks : List ℕ) (bits : List Bool) → length (marked ks bits) ≡ length bits
unfolding marked
marked-long [] bits = refl
marked-long (j ∷ ks) bits = marked-long ks (slice_set bits j true) ∙ set-long bits j

or_left : (a b : Bool) → a ≡ true → (a || b) ≡ true
or_left true b h = refl
or_left false b h = let e : false ≡ true = h in cc

or_right : (a b : Bool) → b ≡ true → (a || b) ≡ true
or_right true b h = refl
or_right false b h = h

-- what is set in one of some logs is set in all of them together
pub united-has : (blank : List Bool) (ls : List Log) (l : Log) (k : ℕ) → In l ls → bit l.bits k ≡ true → bit (united blank ls) k ≡ true
unfolding united
united-has blank [] l k h e = absurd h
united-has blank (m ∷ ls) l k (inl q) e = bit-either m.bits (united blank ls) k ∙ or_left _ _ (ap (λ (z : Log). bit z.bits k) (sym q) ∙ e)
united-has blank (m ∷ ls) l k (inr h) e = bit-either m.bits (united blank ls) k ∙ or_right (bit m.bits k) _ (united-has blank ls l k h e)

set-other : (bits : List Bool) (j k : ℕ) → k ≢ j → bit (slice_set bits j true) k ≡ bit bits k
set-other [] j k apart = refl
set-other (b ∷ bits) zero zero apart = absurd (apart refl)
set-other (b ∷ bits) zero (suc k) apart = refl
set-other (b ∷ bits) (suc j) zero apart = refl
set-other (b ∷ bits) (suc j) (suc k) apart = set-other bits j k (λ e. apart (ap suc e))

-- no other is set
pub marked-others : (ks : List ℕ) (bits : List Bool) (k : ℕ) → ¬ In k ks → bit (marked ks bits) k ≡ bit bits k
unfolding marked
marked-others [] bits k out = refl
marked-others (j ∷ ks) bits k out = marked-others ks (slice_set bits j true) k (λ i. out (inr i)) ∙ set-other bits j k (λ e. out (inl e))

-- as many bits as the first has, where the second has no more
pub length-either : (xs ys : List Bool) → length ys ≤ length xs → length (either xs ys) ≡ length xs
unfolding either
length-either [] [] long = refl
length-either [] (y ∷ ys) long = absurd (omega (arith, long))
length-either (x ∷ xs) [] long = refl
length-either (x ∷ xs) (y ∷ ys) long = ap suc (length-either xs ys (omega (arith, long)))
