-- The first extents.
use Rattle.std.proofs.Common.{◌≡◌, ℕ, zero, suc, ◌+◌, ◌<◌, ◌≤◌, false, eqb, List, [], ◌∷◌, ◌++◌, refl, sym, ap, subst, ◌∙◌, arith}
use Rattle.std.specs.List.{range_with_len, AllByRecursion, IsDistinct}
use Rattle.std.specs.List.Sorted.{IsStrictlySortedBy}
use Rattle.std.proofs.lemmas.Bool.{ne_eqb}
use Rattle.std.proofs.lemmas.List.{append-nil}
use Rattle.sm_base.specs.Names.{IsName}
use Rattle.vg_meta.specs.Tables.{IsTable, new_table}
use Rattle.vg_meta.proofs.ExtentLaws.{All-weaken}

pub range-push : (a n : ℕ) → range_with_len a (n + 1) ≡ range_with_len a n ++ (a + n) ∷ []
range-push a zero = ap (λ (x : ℕ). x ∷ []) (omega arith)
range-push a (suc n) =
    let next : suc n + 1 ≡ suc (n + 1) = omega arith in
    let last : a + 1 + n ≡ a + suc n = omega arith in
    rw next (ap (λ (l : List ℕ). a ∷ l) (range-push (a + 1) n ∙ ap (λ (x : ℕ). range_with_len (a + 1) n ++ x ∷ []) last))

pub range-from : (a n : ℕ) → AllByRecursion (λ (e : ℕ). a ≤ e) (range_with_len a n)
range-from a zero = tt
range-from a (suc n) = (omega arith, All-weaken (λ (e : ℕ). a + 1 ≤ e) (λ (e : ℕ). a ≤ e) (range_with_len (a + 1) n) (λ e h. omega arith) (range-from (a + 1) n))

pub range-below : (a n : ℕ) → AllByRecursion (λ (e : ℕ). e < a + n) (range_with_len a n)
range-below a zero = tt
range-below a (suc n) = (omega arith, All-weaken (λ (e : ℕ). e < a + 1 + n) (λ (e : ℕ). e < a + suc n) (range_with_len (a + 1) n) (λ e h. omega arith) (range-below (a + 1) n))

pub range-distinct : (a n : ℕ) → IsDistinct eqb (range_with_len a n)
unfolding IsDistinct
range-distinct a zero = tt
range-distinct a (suc n) = (
  All-weaken (λ (e : ℕ). a + 1 ≤ e) (λ (e : ℕ). eqb a e ≡ false) (range_with_len (a + 1) n) (λ e h. ne_eqb a e (λ same. absurd (omega arith))) (range-from (a + 1) n),
  range-distinct (a + 1) n,
)

-- the table of a new group is one
pub IsTable-new : (count n : ℕ) → n ≤ count → IsTable count (new_table n)
unfolding IsName IsStrictlySortedBy
IsTable-new count n le = record {
  sequence = omega arith;
  volumes = record {
    each = (record { name = tt; kind = refl }, tt);
    rising = (tt, tt);
    below = subst (λ (l : List ℕ). AllByRecursion (λ (e : ℕ). e < count) l) (sym (append-nil (range_with_len 0 n)))
        (All-weaken (λ (e : ℕ). e < 0 + n) (λ (e : ℕ). e < count) (range_with_len 0 n) (λ e h. omega arith) (range-below 0 n));
    distinct = subst (λ (l : List ℕ). IsDistinct eqb l) (sym (append-nil (range_with_len 0 n))) (range-distinct 0 n);
  };
}

pub first-push : (n : ℕ) → range_with_len 0 (n + 1) ≡ range_with_len 0 n ++ n ∷ []
first-push n = let last : 0 + n ≡ n = omega arith in range-push 0 n ∙ ap (λ (x : ℕ). range_with_len 0 n ++ x ∷ []) last
