-- Flags that are set and cleared, as the places that are flagged.
use Rattle.std.proofs.Common.{◌≡◌, ◌≢◌, ℕ, zero, suc, ◌+◌, ◌-◌, ◌<◌, ◌≤◌, ◌==◌, not, nat_lt, Bool, true, false, cond, List, [], ◌∷◌, ◌++◌, length, replicate, drop, slice_index_or, slice_set, Some, if◌then◌else◌, refl, sym, ap, ap₂, ◌∙◌, subst, eqb-true, arith}
use Rattle.std.proofs.lemmas.Bool.{lt-ltb, ltb-true, true≢false}
use Rattle.std.proofs.lemmas.List.{length-replicate}
use Rattle.sm_machine.specs.Operations.{with_dirty, without_dirty}
use Rattle.sm_machine.proofs.Lives.{is_same}
use Rattle.sm_operation.specs.Kept.{flagged, least, lengthened}

-- ---- numbers

pub not_less : (a b : ℕ) → b ≤ a → nat_lt a b ≡ false
not_less a b up = by (nat_lt a b) refl
  where
    by : (c : Bool) → nat_lt a b ≡ c → c ≡ false
    by true e = absurd (let z = ltb-true a b e in omega (arith, z, up))
    by false e = refl

not_same : (a b : ℕ) → a ≢ b → (a == b) ≡ false
not_same a b other = by (a == b) refl
  where
    by : (c : Bool) → (a == b) ≡ c → c ≡ false
    by true e = absurd (other (eqb-true a b e))
    by false e = refl

-- ---- flags that are clear, and how many are set

-- none is flagged of flags that are clear
pub none_flagged : (k n : ℕ) → flagged k (replicate n false) ≡ []
unfolding flagged
none_flagged k zero = refl
none_flagged k (suc n) = none_flagged (k + 1) n

-- more flags that are clear behind others: none more is flagged
pub flagged_behind : (k n : ℕ) (bs : List Bool) → flagged k (bs ++ replicate n false) ≡ flagged k bs
unfolding flagged
flagged_behind k n [] = none_flagged k n
flagged_behind k n (true ∷ bs) = ap (λ (xs : List ℕ). k ∷ xs) (flagged_behind (k + 1) n bs)
flagged_behind k n (false ∷ bs) = flagged_behind (k + 1) n bs

-- and one that was clear, or not there, is clear
none_set : (n b : ℕ) → slice_index_or (replicate n false) b false ≡ false
none_set zero b = refl
none_set (suc n) zero = refl
none_set (suc n) (suc b) = none_set n b

pub clear_behind : (n b : ℕ) (bs : List Bool) → slice_index_or (bs ++ replicate n false) b false ≡ slice_index_or bs b false
clear_behind n b [] = none_set n b
clear_behind n zero (x ∷ bs) = refl
clear_behind n (suc b) (x ∷ bs) = clear_behind n b bs

pub length_behind : (n : ℕ) (bs : List Bool) → length (bs ++ replicate n false) ≡ length bs + n
length_behind n [] = let e = by n in omega (arith, e)
  where
    by : (k : ℕ) → length (replicate k false) ≡ k
    by k = length-replicate k false
length_behind n (x ∷ bs) = let e = length_behind n bs in omega (arith, e)

-- there are at least so many then, and no more than these or those
pub lengthened_long : (n : ℕ) (bs : List Bool) → n ≤ length (lengthened n bs)
lengthened_long n bs = let e = length_behind (n - length bs) bs in omega (arith, e)

pub lengthened_few : (n m : ℕ) (bs : List Bool) → n ≤ m → length bs ≤ m → length (lengthened n bs) ≤ m
lengthened_few n m bs some few = let e = length_behind (n - length bs) bs in omega (arith, e, some, few)

-- a flag that is set is there
pub set_within : (b : ℕ) (bs : List Bool) → slice_index_or bs b false ≡ true → b < length bs
set_within b [] set = absurd (true≢false (sym set))
set_within zero (x ∷ bs) set = omega arith
set_within (suc b) (x ∷ bs) set = let e = set_within b bs set in omega (arith, e)

-- no more than there are flags
pub few_flagged : (k : ℕ) (bs : List Bool) → length (flagged k bs) ≤ length bs
unfolding flagged
few_flagged k [] = omega arith
few_flagged k (true ∷ bs) = let e = few_flagged (k + 1) bs in omega (arith, e)
few_flagged k (false ∷ bs) = let e = few_flagged (k + 1) bs in omega (arith, e)

-- ---- one flag is set

-- a number below all flagged ones comes first
before_flagged : (j k : ℕ) (bs : List Bool) → j < k → with_dirty j (flagged k bs) ≡ j ∷ flagged k bs
unfolding flagged with_dirty
before_flagged j k [] less = refl
before_flagged j k (true ∷ bs) less = ap (λ c. cond c (j ∷ k ∷ flagged (k + 1) bs) (cond (k == j) (k ∷ flagged (k + 1) bs) (k ∷ with_dirty j (flagged (k + 1) bs)))) (lt-ltb j k less)
before_flagged j k (false ∷ bs) less = before_flagged j (k + 1) bs (omega (arith, less))

-- a number above the first one is put behind it
behind_first : (k j : ℕ) (xs : List ℕ) → k < j → with_dirty j (k ∷ xs) ≡ k ∷ with_dirty j xs
unfolding with_dirty
behind_first k j xs less = ap₂ (λ c d. cond c (j ∷ k ∷ xs) (cond d (k ∷ xs) (k ∷ with_dirty j xs))) (not_less j k (omega (arith, less))) (not_same k j (λ e. omega (arith, e, less)))

at_next : (k b : ℕ) → k + 1 + b ≡ k + suc b
at_next k b = omega arith

pub flag_set : (k b : ℕ) (bs : List Bool) → b < length bs → slice_index_or bs b false ≡ false → flagged k (slice_set bs b true) ≡ with_dirty (k + b) (flagged k bs)
unfolding flagged
flag_set k b [] within clear = absurd (omega (arith, within))
flag_set k zero (x ∷ bs) within clear = by x clear
  where
    by : (c : Bool) → c ≡ false → k ∷ flagged (k + 1) bs ≡ with_dirty (k + 0) (if c then k ∷ flagged (k + 1) bs else flagged (k + 1) bs)
    by true e = absurd (true≢false e)
    by false e = sym (ap (λ j. with_dirty j (flagged (k + 1) bs)) (let z : k + 0 ≡ k = omega arith in z) ∙ before_flagged k (k + 1) bs (omega arith))
flag_set k (suc b) (true ∷ bs) within clear =
    ap (λ (xs : List ℕ). k ∷ xs) (flag_set (k + 1) b bs (omega (arith, within)) clear ∙ ap (λ j. with_dirty j (flagged (k + 1) bs)) (at_next k b)) ∙ sym (behind_first k (k + suc b) (flagged (k + 1) bs) (omega arith))
flag_set k (suc b) (false ∷ bs) within clear = flag_set (k + 1) b bs (omega (arith, within)) clear ∙ ap (λ j. with_dirty j (flagged (k + 1) bs)) (at_next k b)

-- one that is set stays so
pub flag_kept : (k b : ℕ) (bs : List Bool) → slice_index_or bs b false ≡ true → with_dirty (k + b) (flagged k bs) ≡ flagged k bs
unfolding flagged with_dirty
flag_kept k b [] set = absurd (true≢false (sym set))
flag_kept k zero (x ∷ bs) set = by x set
  where
    by : (c : Bool) → c ≡ true → with_dirty (k + 0) (if c then k ∷ flagged (k + 1) bs else flagged (k + 1) bs) ≡ (if c then k ∷ flagged (k + 1) bs else flagged (k + 1) bs)
    by true e = ap (λ j. with_dirty j (k ∷ flagged (k + 1) bs)) (let z : k + 0 ≡ k = omega arith in z)
        ∙ ap₂ (λ c d. cond c (k ∷ k ∷ flagged (k + 1) bs) (cond d (k ∷ flagged (k + 1) bs) (k ∷ with_dirty k (flagged (k + 1) bs)))) (not_less k k (omega arith)) (is_same k)
    by false e = absurd (true≢false (sym e))
flag_kept k (suc b) (true ∷ bs) set = behind_first k (k + suc b) (flagged (k + 1) bs) (omega arith) ∙ ap (λ (xs : List ℕ). k ∷ xs) (ap (λ j. with_dirty j (flagged (k + 1) bs)) (sym (at_next k b)) ∙ flag_kept (k + 1) b bs set)
flag_kept k (suc b) (false ∷ bs) set = ap (λ j. with_dirty j (flagged (k + 1) bs)) (sym (at_next k b)) ∙ flag_kept (k + 1) b bs set

-- one more is flagged then
pub flag_more : (k b : ℕ) (bs : List Bool) → b < length bs → slice_index_or bs b false ≡ false → length (flagged k (slice_set bs b true)) ≡ length (flagged k bs) + 1
unfolding flagged
flag_more k b [] within clear = absurd (omega (arith, within))
flag_more k zero (true ∷ bs) within clear = absurd (true≢false clear)
flag_more k zero (false ∷ bs) within clear = omega arith
flag_more k (suc b) (true ∷ bs) within clear = let e = flag_more (k + 1) b bs (omega (arith, within)) clear in omega (arith, e)
flag_more k (suc b) (false ∷ bs) within clear = flag_more (k + 1) b bs (omega (arith, within)) clear

-- ---- one flag is cleared

-- a number below all flagged ones is none of them
none_before : (j k : ℕ) (bs : List Bool) → j < k → without_dirty j (flagged k bs) ≡ flagged k bs
unfolding flagged without_dirty
none_before j k [] less = refl
none_before j k (true ∷ bs) less = ap₂ (λ c (xs : List ℕ). cond (not c) (k ∷ xs) xs) (not_same k j (λ e. omega (arith, e, less))) (none_before j (k + 1) bs (omega (arith, less)))
none_before j k (false ∷ bs) less = none_before j (k + 1) bs (omega (arith, less))

-- the first one stays where another goes
first_stays : (k j : ℕ) (xs : List ℕ) → k < j → without_dirty j (k ∷ xs) ≡ k ∷ without_dirty j xs
unfolding without_dirty
first_stays k j xs less = ap (λ c. cond (not c) (k ∷ without_dirty j xs) (without_dirty j xs)) (not_same k j (λ e. omega (arith, e, less)))

pub flag_cleared : (k b : ℕ) (bs : List Bool) → flagged k (slice_set bs b false) ≡ without_dirty (k + b) (flagged k bs)
unfolding flagged without_dirty
flag_cleared k b [] = refl
flag_cleared k zero (x ∷ bs) = by x
  where
    goes : without_dirty (k + 0) (k ∷ flagged (k + 1) bs) ≡ flagged (k + 1) bs
    goes = ap (λ j. without_dirty j (k ∷ flagged (k + 1) bs)) (let z : k + 0 ≡ k = omega arith in z)
        ∙ ap (λ c. cond (not c) (k ∷ without_dirty k (flagged (k + 1) bs)) (without_dirty k (flagged (k + 1) bs))) (is_same k) ∙ none_before k (k + 1) bs (omega arith)

    by : (c : Bool) → flagged (k + 1) bs ≡ without_dirty (k + 0) (if c then k ∷ flagged (k + 1) bs else flagged (k + 1) bs)
    by true = sym goes
    by false = sym (ap (λ j. without_dirty j (flagged (k + 1) bs)) (let z : k + 0 ≡ k = omega arith in z) ∙ none_before k (k + 1) bs (omega arith))
flag_cleared k (suc b) (true ∷ bs) =
    ap (λ (xs : List ℕ). k ∷ xs) (flag_cleared (k + 1) b bs ∙ ap (λ j. without_dirty j (flagged (k + 1) bs)) (at_next k b)) ∙ sym (first_stays k (k + suc b) (flagged (k + 1) bs) (omega arith))
flag_cleared k (suc b) (false ∷ bs) = flag_cleared (k + 1) b bs ∙ ap (λ j. without_dirty j (flagged (k + 1) bs)) (at_next k b)

-- where it was set, one less is flagged then
pub flag_less : (k b : ℕ) (bs : List Bool) → slice_index_or bs b false ≡ true → length (flagged k bs) ≡ length (flagged k (slice_set bs b false)) + 1
unfolding flagged
flag_less k b [] set = absurd (true≢false (sym set))
flag_less k zero (true ∷ bs) set = omega arith
flag_less k zero (false ∷ bs) set = absurd (true≢false (sym set))
flag_less k (suc b) (true ∷ bs) set = let e = flag_less (k + 1) b bs set in omega (arith, e)
flag_less k (suc b) (false ∷ bs) set = flag_less (k + 1) b bs set

-- one that is clear is none of the flagged ones
pub flag_none : (k b : ℕ) (bs : List Bool) → slice_index_or bs b false ≡ false → without_dirty (k + b) (flagged k bs) ≡ flagged k bs
unfolding flagged without_dirty
flag_none k b [] clear = refl
flag_none k zero (true ∷ bs) clear = absurd (true≢false clear)
flag_none k zero (false ∷ bs) clear = ap (λ j. without_dirty j (flagged (k + 1) bs)) (let z : k + 0 ≡ k = omega arith in z) ∙ none_before k (k + 1) bs (omega arith)
flag_none k (suc b) (true ∷ bs) clear = first_stays k (k + suc b) (flagged (k + 1) bs) (omega arith) ∙ ap (λ (xs : List ℕ). k ∷ xs) (ap (λ j. without_dirty j (flagged (k + 1) bs)) (sym (at_next k b)) ∙ flag_none (k + 1) b bs clear)
flag_none k (suc b) (false ∷ bs) clear = ap (λ j. without_dirty j (flagged (k + 1) bs)) (sym (at_next k b)) ∙ flag_none (k + 1) b bs clear

-- ---- from a place on

pub flagged_here : (k i : ℕ) (bs : List Bool) → slice_index_or bs i false ≡ true → least (flagged (k + i) (drop i bs)) ≡ Some (k + i)
unfolding flagged
flagged_here k i [] set = absurd (true≢false (sym set))
flagged_here k zero (true ∷ bs) set = refl
flagged_here k zero (false ∷ bs) set = absurd (true≢false (sym set))
flagged_here k (suc i) (x ∷ bs) set = subst (λ j. least (flagged j (drop i bs)) ≡ Some j) (at_next k i) (flagged_here (k + 1) i bs set)

pub flagged_next : (k i : ℕ) (bs : List Bool) → i < length bs → slice_index_or bs i false ≡ false → flagged (k + i) (drop i bs) ≡ flagged (k + (i + 1)) (drop (i + 1) bs)
unfolding flagged
flagged_next k i [] within clear = absurd (omega (arith, within))
flagged_next k zero (true ∷ bs) within clear = absurd (true≢false clear)
flagged_next k zero (false ∷ bs) within clear = ap (λ j. flagged j bs) (let z : k + 0 + 1 ≡ k + 1 = omega arith in z)
flagged_next k (suc i) (x ∷ bs) within clear =
    ap (λ j. flagged j (drop i bs)) (sym (at_next k i)) ∙ flagged_next (k + 1) i bs (omega (arith, within)) clear
    ∙ ap₂ (λ j (xs : List Bool). flagged j xs) (let z : k + 1 + (i + 1) ≡ k + (suc i + 1) = omega arith in z) (ap (λ n. drop n (x ∷ bs)) (let z : suc (i + 1) ≡ suc i + 1 = omega arith in z))

pub flagged_end : (k i : ℕ) (bs : List Bool) → length bs ≤ i → flagged (k + i) (drop i bs) ≡ []
unfolding flagged
flagged_end k zero [] past = refl
flagged_end k (suc i) [] past = refl
flagged_end k zero (x ∷ bs) past = absurd (omega (arith, past))
flagged_end k (suc i) (x ∷ bs) past = ap (λ j. flagged j (drop i bs)) (sym (at_next k i)) ∙ flagged_end (k + 1) i bs (omega (arith, past))
