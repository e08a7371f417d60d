-- Bits of some logs together, whichever comes first.
use Rattle.std.proofs.Common.{◌≡◌, ℕ, zero, suc, ◌≤◌, max, ◌||◌, ◌-◌, Bool, true, false, List, [], ◌∷◌, length, replicate, if◌then◌else◌, Option, Some, None, Result, Ok, Err, refl, sym, ap, ap₂, ◌∙◌, arith}
use Rattle.std.proofs.lemmas.List.{length-replicate}
use Rattle.std.specs.Prelude.{is_some, OnErr}
use Rattle.std.specs.Str.{bytes_eq}
use Rattle.common_laws.specs.Lists.{◌>>=◌}
use Rattle.sm_log.specs.Logs.{Log, bit, changed, either, log_of, united, walk, before}
use Rattle.sm_log.proofs.BitLaws.{bit-either}
use Rattle.sm_logs.specs.Held.{bits_of}

-- flags of one length with the same bits are one
pub same_bits : (xs ys : List Bool) → length xs ≡ length ys → ((k : ℕ) → bit xs k ≡ bit ys k) → xs ≡ ys
same_bits [] [] long h = refl
same_bits [] (y ∷ ys) long h = absurd (omega (arith, long))
same_bits (x ∷ xs) [] long h = absurd (omega (arith, long))
same_bits (x ∷ xs) (y ∷ ys) long h = ap₂ (λ (z : Bool) (zs : List Bool). z ∷ zs) (h 0) (same_bits xs ys (omega (arith, long)) (λ k. h (suc k)))

pub long-either : (xs ys : List Bool) → length (either xs ys) ≡ max (length xs) (length ys)
unfolding either
long-either [] ys = omega arith
long-either (x ∷ xs) [] = omega arith
long-either (x ∷ xs) (y ∷ ys) = omega (arith, long-either xs ys)

clear-bit : (n k : ℕ) → bit (replicate n false) k ≡ false
clear-bit zero k = refl
clear-bit (suc n) zero = refl
clear-bit (suc n) (suc k) = clear-bit n k

or_turned : (a b : Bool) → (a || b) ≡ (b || a)
or_turned true true = refl
or_turned true false = refl
or_turned false true = refl
or_turned false false = refl

-- clear bits change nothing
pub either_clear : (xs : List Bool) → either (replicate (length xs) false) xs ≡ xs
either_clear xs = same_bits (either (replicate (length xs) false) xs) xs
    (long-either (replicate (length xs) false) xs ∙ omega (arith, length-replicate {A = Bool} (length xs) false))
    (λ k. bit-either (replicate (length xs) false) xs k ∙ ap (λ (b : Bool). b || bit xs k) (clear-bit (length xs) k))

-- more clear bits at the end change no bit
united-bit : (m n : ℕ) (ls : List Log) (k : ℕ) → bit (united (replicate m false) ls) k ≡ bit (united (replicate n false) ls) k
unfolding united
united-bit m n [] k = clear-bit m k ∙ sym (clear-bit n k)
united-bit m n (l ∷ ls) k = bit-either l.bits (united (replicate m false) ls) k ∙ ap (λ (b : Bool). bit l.bits k || b) (united-bit m n ls k) ∙ sym (bit-either l.bits (united (replicate n false) ls) k)

pub united-long : (m n : ℕ) (ls : List Log) → length (united (replicate (max m n) false) ls) ≡ max n (length (united (replicate m false) ls))
unfolding united
united-long m n [] = omega (arith, length-replicate {A = Bool} (max m n) false, length-replicate {A = Bool} m false)
united-long m n (l ∷ ls) = omega (arith, united-long m n ls, long-either l.bits (united (replicate (max m n) false) ls), long-either l.bits (united (replicate m false) ls))

-- a log's bits come last as well as first
pub united_last : (m : ℕ) (l : Log) (ls : List Log) → either (united (replicate (max m (length l.bits)) false) ls) l.bits ≡ united (replicate m false) (l ∷ ls)
unfolding united
united_last m l ls =
    let n : ℕ = length l.bits in
    let wide = united (replicate (max m n) false) ls in
    let narrow = united (replicate m false) ls in
    same_bits (either wide l.bits) (either l.bits narrow)
    (omega (arith, long-either wide l.bits, long-either l.bits narrow, united-long m n ls))
    (λ k. bit-either wide l.bits k ∙ or_turned (bit wide k) (bit l.bits k) ∙ ap (λ (b : Bool). bit l.bits k || b) (united-bit (max m n) m ls k) ∙ sym (bit-either l.bits narrow k))

-- ---- a step of a walk

-- no log within none
pub walk_ended : (pieces : ℕ) (u : List ℕ) (logs : List Log) (o : Option Log) → bits_of pieces (walk zero u logs o) ≡ None
unfolding walk
walk_ended pieces u logs o = refl

pub walk_met : (pieces k most : ℕ) (u : List ℕ) (logs : List Log) (l : Log) → most ≡ suc k → bytes_eq l.disk u ≡ true → bits_of pieces (walk most u logs (Some l)) ≡ Some (replicate pieces false)
unfolding walk united
walk_met pieces k most u logs l e same = rw (e, same) refl

one_more : (pieces : ℕ) (l : Log) (r : Option (List Log)) → bits_of pieces (r >>= λ ls. Some (l ∷ ls)) ≡ (bits_of (max pieces (length l.bits)) r >>= λ bits. Some (either bits l.bits))
one_more pieces l None = refl
one_more pieces l (Some ls) = ap Some (sym (united_last pieces l ls))

pub walk_more : (pieces k most : ℕ) (u : List ℕ) (logs : List Log) (l : Log) → most ≡ suc k → bytes_eq l.disk u ≡ false
    → bits_of pieces (walk most u logs (Some l)) ≡ (bits_of (max pieces (length l.bits)) (walk k u logs (before l logs)) >>= λ bits. Some (either bits l.bits))
unfolding walk
walk_more pieces k most u logs l e apart = rw (e, apart) (one_more pieces l (walk k u logs (before l logs)))

pub walk_none : (pieces most : ℕ) (u : List ℕ) (logs : List Log) → bits_of pieces (walk most u logs None) ≡ None
unfolding walk
walk_none pieces zero u logs = refl
walk_none pieces (suc most) u logs = refl

-- what is met has at least as many bits
pub bits_long : (m n : ℕ) (r : Option (List Log)) (bits : List Bool) → bits_of (max m n) r ≡ Some bits → n ≤ length bits
bits_long m n None bits h = let z : None ≡ Some bits = h in absurd cc
bits_long m n (Some ls) bits h =
    let z : Some (united (replicate (max m n) false) ls) ≡ Some bits = h in
    let s : united (replicate (max m n) false) ls ≡ bits = cc in
    omega (arith, united-long m n ls, ap (λ (x : List Bool). length x) s)

-- a walk that goes on
pub walk_step : (pieces longest most : ℕ) (u : List ℕ) (logs : List Log) (l : Log) (o : Option Log) → (most ≡ 0 → ⊥) → bytes_eq l.disk u ≡ false → o ≡ before l logs
    → longest ≡ max pieces (length l.bits) → bits_of pieces (walk most u logs (Some l)) ≡ (bits_of longest (walk (most - 1) u logs o) >>= λ bits. Some (either bits l.bits))
walk_step pieces longest most u logs l o some apart earlier wide =
    let e : most ≡ suc (most - 1) = omega (arith, some) in
    walk_more pieces (most - 1) most u logs l e apart
    ∙ ap₂ (λ (n : ℕ) (m : Option Log). bits_of n (walk (most - 1) u logs m) >>= λ bits. Some (either bits l.bits)) (sym wide) (sym earlier)

pub some_more : (o : Option (List Bool)) (f : List Bool → List Bool) → is_some o ≡ true → is_some (o >>= λ bits. Some (f bits)) ≡ true
some_more None f h = h
some_more (Some bits) f h = refl

pub on_err : {T E : Type 0} (r : Result T E) {P : Type 0} → P → OnErr r P
on_err (Ok x) p = tt
on_err (Err e) p = p

-- ---- what is answered of two disks

pub changed_same : (pieces : ℕ) (u n : List ℕ) (logs : List Log) → bytes_eq u n ≡ true → changed pieces u n logs ≡ Some (replicate pieces false)
unfolding changed
changed_same pieces u n logs same = rw same refl

pub changed_other : (pieces : ℕ) (u n : List ℕ) (logs : List Log) (o : Option Log) → bytes_eq u n ≡ false → o ≡ log_of n logs
    → bits_of pieces (walk (length logs) u logs o) ≡ changed pieces u n logs
unfolding changed
changed_other pieces u n logs o apart is = rw (apart, is) refl

-- ---- whether a walk leads back

pub leads_nowhere : (most : ℕ) (u : List ℕ) (logs : List Log) (o : Option Log) → most ≡ 0 → is_some (walk most u logs o) ≡ false
unfolding walk
leads_nowhere most u logs o e = rw e refl

pub leads_none : (most : ℕ) (u : List ℕ) (logs : List Log) → is_some (walk most u logs None) ≡ false
unfolding walk
leads_none zero u logs = refl
leads_none (suc most) u logs = refl

pub leads_met : (most : ℕ) (u : List ℕ) (logs : List Log) (l : Log) → (most ≡ 0 → ⊥) → bytes_eq l.disk u ≡ true → is_some (walk most u logs (Some l)) ≡ true
unfolding walk
leads_met zero u logs l some same = absurd (some refl)
leads_met (suc most) u logs l some same = rw same refl

some_of_more : (l : Log) (r : Option (List Log)) → is_some (r >>= λ ls. Some (l ∷ ls)) ≡ is_some r
some_of_more l None = refl
some_of_more l (Some ls) = refl

pub leads_more : (k most : ℕ) (u : List ℕ) (logs : List Log) (l : Log) (o : Option Log) → most ≡ suc k → bytes_eq l.disk u ≡ false → o ≡ before l logs
    → is_some (walk most u logs (Some l)) ≡ is_some (walk k u logs o)
unfolding walk
leads_more k most u logs l o e apart is = rw (e, apart, is) (some_of_more l (walk k u logs (before l logs)))

united_some : (blank : List Bool) (r : Option (List Log)) → is_some (r >>= λ ls. Some (united blank ls)) ≡ is_some r
united_some blank None = refl
united_some blank (Some ls) = refl

pub leads_same : (pieces : ℕ) (u n : List ℕ) (logs : List Log) → bytes_eq u n ≡ true → is_some (changed pieces u n logs) ≡ true
unfolding changed
leads_same pieces u n logs same = rw same refl

pub leads_other : (pieces : ℕ) (u n : List ℕ) (logs : List Log) (o : Option Log) → bytes_eq u n ≡ false → o ≡ log_of n logs
    → is_some (changed pieces u n logs) ≡ is_some (walk (length logs) u logs o)
unfolding changed
leads_other pieces u n logs o apart is = rw (apart, is) (united_some (replicate pieces false) (walk (length logs) u logs (log_of n logs)))

-- ---- what is told has a bit for each piece

pub changed_long : (pieces : ℕ) (u n : List ℕ) (logs : List Log) (bits : List Bool) → changed pieces u n logs ≡ Some bits → pieces ≤ length bits
unfolding changed
changed_long pieces u n logs bits e = by (bytes_eq u n) refl e
  where
    of_walk : (r : Option (List Log)) → bits_of pieces r ≡ Some bits → pieces ≤ length bits
    of_walk r q = let m : max pieces pieces ≡ pieces = omega arith in bits_long pieces pieces r bits (ap (λ (n : ℕ). bits_of n r) m ∙ q)

    by : (b : Bool) → bytes_eq u n ≡ b → (if b then Some (replicate pieces false) else bits_of pieces (walk (length logs) u logs (log_of n logs))) ≡ Some bits → pieces ≤ length bits
    by true same q =
        let s : replicate pieces false ≡ bits = cc in
        omega (arith, length-replicate {A = Bool} pieces false, ap (λ (x : List Bool). length x) s)
    by false apart q = of_walk (walk (length logs) u logs (log_of n logs)) q
