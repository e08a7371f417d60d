-- Laws of the calls that are told to fail.
use Rattle.std.proofs.Common.{◌≡◌, ℕ, ◌+◌, ◌-◌, min, map, filter, Bool, true, false, ◌||◌, cond, eqb, ltb, leb, List, [], ◌∷◌, ◌++◌, Option, Some, None, Result, Ok, Err, OnOk, is_err, sym, refl, ap, ◌∙◌, arith}
use Rattle.std.specs.Option.{option_map, option_map_or}
use Rattle.std.proofs.lemmas.Bool.{false≢true}
use Rattle.std.proofs.lemmas.Bool.Decides.{nat_tests}
use Rattle.sm_disk.specs.Failing.{Orders, fails, comes_late, is_named, HasPassed, Names, Stops, passed}

is_named-append : (xs ys : List ℕ) (k : ℕ) → is_named (xs ++ ys) k ≡ (is_named xs k || is_named ys k)
is_named-append [] ys k = refl
is_named-append (x ∷ xs) ys k = by (eqb x k) (is_named-append xs ys k)
  where
    by : (b : Bool) → is_named (xs ++ ys) k ≡ (is_named xs k || is_named ys k) → (b || is_named (xs ++ ys) k) ≡ ((b || is_named xs k) || is_named ys k)
    by true h = refl
    by false h = h

-- a number of the list less one is k where the number is k + 1
is_named-passed : (xs : List ℕ) (k : ℕ) → is_named (passed xs) k ≡ is_named xs (k + 1)
is_named-passed [] k = refl
is_named-passed (x ∷ xs) k = by (ltb 0 x) refl (is_named-passed xs k)
  where
    by : (b : Bool) → ltb 0 x ≡ b → is_named (passed xs) k ≡ is_named xs (k + 1)
        → is_named (map (λ n. n - 1) (cond b (x ∷ filter (ltb 0) xs) (filter (ltb 0) xs))) k ≡ is_named (x ∷ xs) (k + 1)
    by true is h =
        let same : eqb (x - 1) k ≡ eqb x (k + 1) = grind (arith, nat_tests) in
        ap (λ b. b || is_named (passed xs) k) same ∙ ap (λ b. eqb x (k + 1) || b) h
    by false is h =
        let no : eqb x (k + 1) ≡ false = grind (arith, nat_tests) in
        h ∙ ap (λ b. b || is_named xs (k + 1)) (sym no)

pub names_from_append : (o : Orders) (calls : List ℕ) → Names calls o (record o { named = o.named ++ calls })
unfolding fails comes_late
names_from_append o calls = record {
  failing = λ k. by k o.stopped (option_map_or (λ s. leb s k) o.stop false);
  late = λ k. refl;
}
  where
    by : (k : ℕ) (a b : Bool) → (a || b || is_named (o.named ++ calls) k) ≡ (a || b || is_named o.named k || is_named calls k)
    by k true b = refl
    by k false true = refl
    by k false false = is_named-append o.named calls k

pub stops_from_sooner : (o : Orders) (call : ℕ) → Stops call o (record o { stop = Some (option_map_or (λ s. min s call) o.stop call) })
unfolding fails comes_late
stops_from_sooner o call = record {
  failing = λ k. by_le k o.stopped (is_named o.named k) o.stop;
  late = λ k. by_lt k o.stopped o.stop;
}
  where
    le_min : (s k : ℕ) → leb (min s call) k ≡ (leb s k || leb call k)
    le_min s k = grind (arith, nat_tests)

    lt_min : (s k : ℕ) → ltb (min s call) k ≡ (ltb s k || ltb call k)
    lt_min s k = grind (arith, nat_tests)

    to_or_true : (b : Bool) → (b || true) ≡ true
    to_or_true true = refl
    to_or_true false = refl

    to_or_false : (b : Bool) → (b || false) ≡ b
    to_or_false true = refl
    to_or_false false = refl

    swap : (a b c : Bool) → ((a || b) || c) ≡ ((a || c) || b)
    swap true b c = refl
    swap false true true = refl
    swap false true false = refl
    swap false false true = refl
    swap false false false = refl

    by_le : (k : ℕ) (a c : Bool) (stop : Option ℕ) → (a || leb (option_map_or (λ s. min s call) stop call) k || c) ≡ (a || option_map_or (λ s. leb s k) stop false || c || leb call k)
    by_le k true c stop = refl
    by_le k false true None = to_or_true (leb call k)
    by_le k false false None = to_or_false (leb call k)
    by_le k false c (Some s) = ap (λ b. b || c) (le_min s k) ∙ swap (leb s k) (leb call k) c

    by_lt : (k : ℕ) (a : Bool) (stop : Option ℕ) → (a || ltb (option_map_or (λ s. min s call) stop call) k) ≡ (a || option_map_or (λ s. ltb s k) stop false || ltb call k)
    by_lt k true stop = refl
    by_lt k false None = refl
    by_lt k false (Some s) = lt_min s k

-- the orders once a call has gone by
abbrev pub later : Orders → Orders
later o = record { named = passed o.named; stop = option_map (λ s. s - 1) o.stop; stopped = o.stopped || option_map_or (λ s. leb s 0) o.stop false }

pub passes : (o : Orders) → HasPassed o (later o)
unfolding fails comes_late
passes o = record {
  failing = λ k. by_le k o.stopped o.stop;
  late = λ k. by_lt k o.stopped o.stop;
}
  where
    by_le : (k : ℕ) (a : Bool) (stop : Option ℕ) → (a || option_map_or (λ s. leb s 0) stop false || option_map_or (λ s. leb s k) (option_map (λ s. s - 1) stop) false || is_named (passed o.named) k)
        ≡ (a || option_map_or (λ s. leb s (k + 1)) stop false || is_named o.named (k + 1))
    by_le k true stop = refl
    by_le k false None = is_named-passed o.named k
    by_le k false (Some s) = ap (λ b. leb s 0 || leb (s - 1) k || b) (is_named-passed o.named k) ∙ ap (λ b. b || is_named o.named (k + 1)) (let e : (leb s 0 || leb (s - 1) k) ≡ leb s (k + 1) = grind (arith, nat_tests) in e)

    by_lt : (k : ℕ) (a : Bool) (stop : Option ℕ) → (a || option_map_or (λ s. leb s 0) stop false || option_map_or (λ s. ltb s k) (option_map (λ s. s - 1) stop) false)
        ≡ (a || option_map_or (λ s. ltb s (k + 1)) stop false)
    by_lt k true stop = refl
    by_lt k false None = refl
    by_lt k false (Some s) = grind (arith, nat_tests)

pub late_first : (o : Orders) → comes_late o 0 ≡ o.stopped
unfolding comes_late
late_first o = by o.stopped o.stop
  where
    by : (a : Bool) (stop : Option ℕ) → (a || option_map_or (λ s. ltb s 0) stop false) ≡ a
    by true stop = refl
    by false None = refl
    by false (Some s) = grind (arith, nat_tests)

late_fails : (o : Orders) → fails o 0 ≡ false → comes_late o 0 ≡ false
unfolding fails comes_late
late_fails o works = by o.stopped o.stop works
  where
    by : (a : Bool) (stop : Option ℕ) → (a || option_map_or (λ s. leb s 0) stop false || is_named o.named 0) ≡ false
        → (a || option_map_or (λ s. ltb s 0) stop false) ≡ false
    by true stop h = h
    by false None h = refl
    by false (Some s) h = grind (arith, nat_tests)

-- a call that succeeded was told nothing, and found memory
pub on_ok_told : {T E : Type 0} {P : Type 0} (r : Result T E) (o : Orders) (short : Bool) → is_err r ≡ (fails o 0 || short)
    → (comes_late o 0 ≡ false → short ≡ false → P) → OnOk r P
on_ok_told (Err e) o short is h = tt
on_ok_told (Ok x) o short is h = h (late_fails o (by (fails o 0) short is).0) (by (fails o 0) short is).1
  where
    by : (a b : Bool) → false ≡ (a || b) → (a ≡ false) × (b ≡ false)
    by true b e = (sym e, absurd (false≢true e))
    by false b e = (refl, sym e)
