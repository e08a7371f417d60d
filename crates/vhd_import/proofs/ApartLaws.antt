-- Entries that stand one behind the other, looked at one by one.
use Rattle.std.proofs.Common.{◌≡◌, ℕ, zero, suc, ◌+◌, ◌<◌, ◌≤◌, true, false, List, [], ◌∷◌, length, get_or, drop, refl, sym, ap, ◌∙◌, arith}
use Rattle.std.specs.Prelude.{nat_le}
use Rattle.std.proofs.lemmas.Bool.Decides.{nat_tests}
use Rattle.vhd_import.specs.declared.tables.Entry.{Entry}
use Rattle.vhd_import.specs.Apart.{stand_apart}

-- what is left begins with the entry at an index
left : (es : List Entry) (i : ℕ) (d : Entry) → i < length es → drop i es ≡ get_or es i d ∷ drop (i + 1) es
left [] i d less = absurd (omega (arith, less))
left (e ∷ es) zero d less = refl
left (e ∷ es) (suc i) d less = let n : suc i + 1 ≡ suc (i + 1) = omega arith in rw n (left es i d (omega (arith, less)))

-- an entry in front of where it may stand
pub stopped : (from long end : ℕ) (es : List Entry) (i : ℕ) (d : Entry) → i < length es → stand_apart from long (drop i es) ≡ stand_apart end long es → (get_or es i d).place < from → false ≡ stand_apart end long es
unfolding stand_apart
stopped from long end es i d less same low =
    let t : nat_le from (get_or es i d).place ≡ false = grind (arith, nat_tests) in
    let h : stand_apart from long (get_or es i d ∷ drop (i + 1) es) ≡ false = rw t refl in
    sym h ∙ ap (stand_apart from long) (sym (left es i d less)) ∙ same

-- and one that does not
pub passed : (from long end : ℕ) (es : List Entry) (i : ℕ) (d : Entry) → i < length es → stand_apart from long (drop i es) ≡ stand_apart end long es → from ≤ (get_or es i d).place
    → stand_apart ((get_or es i d).place + long) long (drop (i + 1) es) ≡ stand_apart end long es
unfolding stand_apart
passed from long end es i d less same low =
    let t : nat_le from (get_or es i d).place ≡ true = grind (arith, nat_tests) in
    let h : stand_apart from long (get_or es i d ∷ drop (i + 1) es) ≡ stand_apart ((get_or es i d).place + long) long (drop (i + 1) es) = rw t refl in
    sym h ∙ ap (stand_apart from long) (sym (left es i d less)) ∙ same

pub ended : (from long end : ℕ) (es : List Entry) (i : ℕ) → length es ≤ i → stand_apart from long (drop i es) ≡ stand_apart end long es → true ≡ stand_apart end long es
unfolding stand_apart
ended from long end es i past same = ap (stand_apart from long) (sym (none es i past)) ∙ same
  where
    none : (es : List Entry) (i : ℕ) → length es ≤ i → drop i es ≡ []
    none [] zero past = refl
    none [] (suc i) past = refl
    none (e ∷ es) zero past = absurd (omega (arith, past))
    none (e ∷ es) (suc i) past = none es i (omega (arith, past))
