-- Bits in bytes: one that is put, some that are put, and bits as a list of flags.
use Rattle.std.proofs.Common.{◌≡◌, ◌≢◌, ℕ, zero, suc, ◌+◌, ◌-◌, ◌*◌, ◌/◌, ◌%◌, ◌^◌, ◌<◌, ◌≤◌, ◌⊎◌, max, min, ◌==◌, Bool, true, false, not, ◌||◌, eqb, List, [], ◌∷◌, length, length-set, get_or, set, map, take, drop, replicate, bit_or, bit_xor, refl, sym, ap, ap₂, ◌∙◌, inl, inr, ⊎_elim, eq-eqb, arith, get_or-set_same, get_or-set_other, if◌then◌else◌, pow_mono}
use mathlib.Core.Bool.{beq}
use Rattle.std.specs.Int.{bit_at}
use Rattle.std.specs.List.{list_all}
use Rattle.std.specs.Prelude.{MatchBool, ◌&&◌}
use Rattle.std.proofs.lemmas.Nat.Bits.{bit_at_or, bit_at_xor, bit_at-zero, bit_at-lt, bit_at-pow_same, bit_at-pow_other}
use Rattle.std.proofs.lemmas.Bool.{cases_eq, cases_lt, true≢false, eqb-true}
use Rattle.std.proofs.lemmas.List.{get_or_past, get_or-drop, drop-drop, drop_more, length-map, get_or-replicate, length-replicate}
use Rattle.sm_base.specs.Numbers.{div_up}
use Rattle.common_laws.specs.Lists.{In, numbers}
use Rattle.common_laws.proofs.Lists.{In-numbers, numbers-In}
use Rattle.vhd_map.specs.Bitmaps.{is_set}
use Rattle.sm_log.specs.Logs.{bit, marked, either, sector_bits}
use Rattle.sm_log.specs.Coded.{one_if, byte_of, packed}
use Rattle.sm_log.specs.Kept.{bits_in, AreKept, IsPut, AreSet, AreFrom, AreEither, AllSet, SomeClear, with_sector}
use Rattle.sm_log.proofs.BitLaws.{bit-either, length-either, marked-sets, marked-others, marked-long}

-- ---- one bit

-- element i of a list with bit k turned there
abbrev turned : List ℕ → ℕ → ℕ → List ℕ
turned xs i k = set xs i (bit_xor (get_or xs i 0) (1 * 2 ^ k % 256))

small : (k : ℕ) → k < 8 → 1 * 2 ^ k % 256 ≡ 2 ^ k
small k w =
    let most : 2 ^ k ≤ 2 ^ 7 = pow_mono {i = k} {j = 7} (omega arith) in
    omega (arith, most)

turn_same : (b k : ℕ) → k < 8 → bit_at (bit_xor b (1 * 2 ^ k % 256)) k ≡ (bit_at b k + 1) % 2
turn_same b k w = rw (small k w) (bit_at_xor b (2 ^ k) k ∙ ap (λ (x : ℕ). (bit_at b k + x) % 2) (bit_at-pow_same k))

turn_other : (b k i : ℕ) → k < 8 → i ≢ k → bit_at (bit_xor b (1 * 2 ^ k % 256)) i ≡ bit_at b i
turn_other b k i w apart = rw (small k w) (bit_at_xor b (2 ^ k) i ∙ ap (λ (x : ℕ). (bit_at b i + x) % 2) (bit_at-pow_other k i apart) ∙ omega (arith, bit_at-lt b i))

turned_flag : (x : ℕ) (flag : Bool) → x < 2 → eqb x 1 ≢ flag → eqb ((x + 1) % 2) 1 ≡ flag
turned_flag zero true w apart = refl
turned_flag zero false w apart = absurd (apart refl)
turned_flag (suc zero) true w apart = absurd (apart refl)
turned_flag (suc zero) false w apart = refl
turned_flag (suc (suc x)) flag w apart = absurd (omega arith)

differs : (a b : Bool) → not (beq a b) ≡ true → a ≢ b
differs true true h e = true≢false (sym h)
differs true false h e = true≢false e
differs false true h e = true≢false (sym e)
differs false false h e = true≢false (sym h)

pub put_turned : (bytes : List ℕ) (piece : ℕ) (flag : Bool) → piece / 8 < length bytes → not (beq (is_set bytes piece) flag) ≡ true
    → IsPut piece flag bytes (turned bytes (piece / 8) (7 - piece % 8))
unfolding is_set
put_turned bytes piece flag within apart = record {
  long = lengths;
  here = ap (λ (x : ℕ). eqb (bit_at x (7 - piece % 8)) 1) (get_or-set_same bytes (piece / 8) _ 0 within)
      ∙ ap (λ (x : ℕ). eqb x 1) (turn_same (get_or bytes (piece / 8) 0) (7 - piece % 8) (omega arith))
      ∙ turned_flag (bit_at (get_or bytes (piece / 8) 0) (7 - piece % 8)) flag (bit_at-lt (get_or bytes (piece / 8) 0) (7 - piece % 8)) (differs (is_set bytes piece) flag apart);
  others = λ k ne. ap (λ (x : ℕ). eqb x 1) (go k ne (cases_eq (k / 8) (piece / 8)));
}
  where
    lengths : length (turned bytes (piece / 8) (7 - piece % 8)) ≡ length bytes
    lengths = length-set bytes (piece / 8) _

    go : (k : ℕ) → (k ≡ piece → ⊥) → (k / 8 ≡ piece / 8) ⊎ (k / 8 ≡ piece / 8 → ⊥)
        → bit_at (get_or (turned bytes (piece / 8) (7 - piece % 8)) (k / 8) 0) (7 - k % 8) ≡ bit_at (get_or bytes (k / 8) 0) (7 - k % 8)
    go k ne (inl e) = rw (e, get_or-set_same) (turn_other (get_or bytes (piece / 8) 0) (7 - piece % 8) (7 - k % 8) (omega arith) (omega arith))
    go k ne (inr far) = ap (λ (x : ℕ). bit_at x (7 - k % 8)) (get_or-set_other bytes (piece / 8) (k / 8) _ 0 (λ e. far e))

pub put_already : (bytes : List ℕ) (piece : ℕ) (flag : Bool) → is_set bytes piece ≡ flag → IsPut piece flag bytes bytes
put_already bytes piece flag is = record { long = refl; here = is; others = λ k ne. refl }

-- ---- bits as flags

bit-map : (f : ℕ → Bool) (a n i : ℕ) → i < n → bit (map f (numbers a n)) i ≡ f (a + i)
unfolding numbers
bit-map f a zero i w = absurd (omega arith)
bit-map f a (suc n) zero w = let e : a ≡ a + 0 = omega arith in ap f e
bit-map f a (suc n) (suc i) w = let e : a + 1 + i ≡ a + suc i = omega arith in bit-map f (a + 1) n i (omega arith) ∙ ap f e

pub bit-flags : (f : ℕ → Bool) (n i : ℕ) → i < n → bit (map f (numbers 0 n)) i ≡ f i
bit-flags f n i w = let e : 0 + i ≡ i = omega arith in bit-map f 0 n i w ∙ ap f e

pub length-numbers : (a n : ℕ) → length (numbers a n) ≡ n
unfolding numbers
length-numbers a zero = refl
length-numbers a (suc n) = ap suc (length-numbers (a + 1) n)

pub length-flags : (f : ℕ → Bool) (n : ℕ) → length (map f (numbers 0 n)) ≡ n
length-flags f n = length-map (numbers 0 n) f ∙ length-numbers 0 n

pub length-bits : (pieces : ℕ) (bytes : List ℕ) → length (bits_in pieces bytes) ≡ pieces
length-bits pieces bytes = length-flags (is_set bytes) pieces

past : (bits : List Bool) (k : ℕ) → length bits ≤ k → bit bits k ≡ false
past bits k w = get_or_past bits k false w

-- a bit that is seen is the bit that is kept
-- the first bits, so many, are as they were
pub bit-cut : (n : ℕ) (bits : List Bool) (k : ℕ) → k < n → bit (take n bits) k ≡ bit bits k
bit-cut zero bits k w = absurd (omega (arith, w))
bit-cut (suc n) [] k w = refl
bit-cut (suc n) (b ∷ bits) zero w = refl
bit-cut (suc n) (b ∷ bits) (suc k) w = bit-cut n bits k (omega (arith, w))

-- behind them none is set
pub bit-behind : (n : ℕ) (bits : List Bool) (k : ℕ) → n ≤ k → bit (take n bits) k ≡ false
bit-behind zero bits k w = refl
bit-behind (suc n) [] k w = refl
bit-behind (suc n) (b ∷ bits) zero w = absurd (omega (arith, w))
bit-behind (suc n) (b ∷ bits) (suc k) w = bit-behind n bits k (omega (arith, w))

pub kept-bit : (pieces : ℕ) (bytes : List ℕ) → AreKept pieces bytes → (k : ℕ) → bit (bits_in pieces bytes) k ≡ is_set bytes k
kept-bit pieces bytes kept k = by (cases_lt k pieces)
  where
    by : (k < pieces) ⊎ (pieces ≤ k) → bit (bits_in pieces bytes) k ≡ is_set bytes k
    by (inl w) = bit-flags (is_set bytes) pieces k w
    by (inr far) = past (bits_in pieces bytes) k (rw (length-bits pieces bytes) far) ∙ sym (kept.clear k far)

pub same_flags : (xs ys : List Bool) → length xs ≡ length ys → ((k : ℕ) → k < length xs → bit xs k ≡ bit ys k) → xs ≡ ys
same_flags [] [] long h = refl
same_flags [] (y ∷ ys) long h = absurd (omega (arith, long))
same_flags (x ∷ xs) [] long h = absurd (omega (arith, long))
same_flags (x ∷ xs) (y ∷ ys) long h =
    let here : x ≡ y = h 0 (omega arith) in
    ap₂ (λ (z : Bool) (zs : List Bool). z ∷ zs) here (same_flags xs ys (omega (arith, long)) (λ k w. h (suc k) (omega arith)))

-- flags that agree with the bits of some bytes are those that are seen in them
seen : (pieces : ℕ) (bytes : List ℕ) (flags : List Bool) → length flags ≡ pieces → ((k : ℕ) → k < pieces → bit flags k ≡ is_set bytes k) → bits_in pieces bytes ≡ flags
seen pieces bytes flags long h = same_flags (bits_in pieces bytes) flags (length-bits pieces bytes ∙ sym long)
    (λ k w. let within : k < pieces = rw (length-bits pieces bytes) at w in bit-flags (is_set bytes) pieces k within ∙ sym (h k within))

-- ---- what the calls do

-- bits of bytes that are zeros
is_set-zeros : (n k : ℕ) → is_set (replicate n 0) k ≡ false
unfolding is_set
is_set-zeros n k = ap (λ (x : ℕ). eqb (bit_at x (7 - k % 8)) 1) (zero_at n (k / 8)) ∙ ap (λ (x : ℕ). eqb x 1) (bit_at-zero (7 - k % 8))
  where
    zero_at : (n i : ℕ) → get_or (replicate {A = ℕ} n 0) i 0 ≡ 0
    zero_at n i = ⊎_elim (λ within. get_or-replicate n i 0 0 within) (λ out. get_or_past (replicate {A = ℕ} n 0) i 0 (rw (length-replicate {A = ℕ} n 0) out)) (cases_lt i n)

-- the bytes of so many pieces
pub room : (pieces : ℕ) (bytes : List ℕ) → AreKept pieces bytes → (pieces + 4095) / 4096 * 512 ≡ length bytes
unfolding div_up
room pieces bytes kept = omega (arith, kept.long)

pub kept-new : (pieces : ℕ) → AreKept pieces (replicate (512 * ((pieces + 4096 - 1) / 4096)) 0)
unfolding div_up
kept-new pieces = record { long = length-replicate {A = ℕ} (512 * ((pieces + 4096 - 1) / 4096)) 0; clear = λ k far. is_set-zeros _ k }

pub seen-new : (pieces n : ℕ) → bits_in pieces (replicate n 0) ≡ replicate pieces false
seen-new pieces n = seen pieces (replicate n 0) (replicate pieces false) (length-replicate {A = Bool} pieces false)
    (λ k w. get_or-replicate pieces k false false w ∙ sym (is_set-zeros n k))

not_in : (first n k : ℕ) → (k < first) ⊎ (first + n ≤ k) → ¬ In k (numbers first n)
not_in first n k (inl early) i = let p = In-numbers first n k i in omega (arith, early, p.0)
not_in first n k (inr late) i = let p = In-numbers first n k i in omega (arith, late, p.1)

pub kept-set : (pieces first end : ℕ) (old new : List ℕ) → AreKept pieces old → AreSet first end old new → end ≤ pieces → AreKept pieces new
kept-set pieces first end old new kept set within = record { long = set.long ∙ kept.long; clear = λ k far. set.behind k (omega arith) ∙ kept.clear k far }

-- low, high: the places from which and before which they are set, among the first pieces
pub seen-set : (pieces first n low high : ℕ) (old new : List ℕ) → AreKept pieces old → AreSet low high old new → low ≡ min first pieces → high ≡ min (first + n) pieces
    → bits_in pieces new ≡ marked (numbers first n) (bits_in pieces old)
seen-set pieces first n low high old new kept set e f =
    seen pieces new (marked (numbers first n) (bits_in pieces old)) (marked-long (numbers first n) (bits_in pieces old) ∙ length-bits pieces old) (λ k w. by k w (cases_lt k first) (cases_lt k (first + n)))
  where
    by : (k : ℕ) → k < pieces → (k < first) ⊎ (first ≤ k) → (k < first + n) ⊎ (first + n ≤ k) → bit (marked (numbers first n) (bits_in pieces old)) k ≡ is_set new k
    by k w (inl early) b =
        let here : k < low = omega (arith, e, early, w) in
        marked-others (numbers first n) (bits_in pieces old) k (not_in first n k (inl early)) ∙ kept-bit pieces old kept k ∙ sym (set.before k here)
    by k w (inr from) (inl to) =
        let above : low ≤ k = omega (arith, e, from) in
        let below : k < high = omega (arith, f, to, w) in
        marked-sets (numbers first n) (bits_in pieces old) k (numbers-In first n k from to) (rw (length-bits pieces old) w) ∙ sym (set.inside k above below)
    by k w (inr from) (inr late) =
        let far : high ≤ k = omega (arith, f, late) in
        marked-others (numbers first n) (bits_in pieces old) k (not_in first n k (inr late)) ∙ kept-bit pieces old kept k ∙ sym (set.behind k far)

pub kept-either : (pieces less : ℕ) (others old new : List ℕ) → less ≤ pieces → AreKept pieces old → AreKept less others → AreEither others old new → AreKept pieces new
kept-either pieces less others old new few kept there both = record {
  long = both.long ∙ kept.long;
  clear = λ k far. both.bits k ∙ ap₂ (λ (x y : Bool). x || y) (kept.clear k far) (there.clear k (omega (arith, few, far)));
}

pub seen-either : (pieces less : ℕ) (others old new : List ℕ) → less ≤ pieces → AreKept pieces old → AreKept less others → AreEither others old new
    → bits_in pieces new ≡ either (bits_in pieces old) (bits_in less others)
seen-either pieces less others old new few kept there both =
    seen pieces new (either (bits_in pieces old) (bits_in less others))
    (length-either (bits_in pieces old) (bits_in less others) (omega (arith, few, length-bits pieces old, length-bits less others)) ∙ length-bits pieces old)
    (λ k w. bit-either (bits_in pieces old) (bits_in less others) k
    ∙ ap₂ (λ (x y : Bool). x || y) (kept-bit pieces old kept k) (kept-bit less others there k) ∙ sym (both.bits k))

-- a byte with the bits of two
or_flag : (x y : ℕ) → x < 2 → y < 2 → eqb (max x y) 1 ≡ (eqb x 1 || eqb y 1)
or_flag zero zero a b = refl
or_flag zero (suc zero) a b = refl
or_flag (suc zero) zero a b = refl
or_flag (suc zero) (suc zero) a b = refl
or_flag (suc (suc x)) y a b = absurd (omega arith)
or_flag zero (suc (suc y)) a b = absurd (omega arith)
or_flag (suc zero) (suc (suc y)) a b = absurd (omega arith)

pub either-bytes : (others old new : List ℕ) → length new ≡ length old → ((k : ℕ) → get_or new k 0 ≡ bit_or (get_or old k 0) (get_or others k 0)) → AreEither others old new
unfolding is_set
either-bytes others old new long h = record {
  long = long;
  bits = λ k. let i : ℕ = 7 - k % 8 in let x : ℕ = get_or old (k / 8) 0 in let y : ℕ = get_or others (k / 8) 0 in
      ap (λ (b : ℕ). eqb (bit_at b i) 1) (h (k / 8)) ∙ ap (λ (b : ℕ). eqb b 1) (bit_at_or x y i) ∙ or_flag (bit_at x i) (bit_at y i) (bit_at-lt x i) (bit_at-lt y i);
}

pub kept-from : (pieces first end : ℕ) (sector old new : List ℕ) → AreKept pieces old → AreFrom first end sector old new → end ≤ pieces → AreKept pieces new
kept-from pieces first end sector old new kept from within = record { long = from.long ∙ kept.long; clear = λ k far. from.behind k (omega arith) ∙ kept.clear k far }

pub seen-from : (pieces index end : ℕ) (sector old new : List ℕ) → AreKept pieces old → AreFrom (4096 * index) end sector old new
    → end ≡ min pieces (4096 * index + 4096) → bits_in pieces new ≡ with_sector index sector (bits_in pieces old)
seen-from pieces index end sector old new kept from e =
    seen pieces new (with_sector index sector (bits_in pieces old)) (length-flags flag (length (bits_in pieces old)) ∙ length-bits pieces old)
    (λ k w. bit-flags flag (length (bits_in pieces old)) k (rw (length-bits pieces old) w) ∙ by k w (k / 4096 == index) refl)
  where
    flag : ℕ → Bool
    flag k = if k / sector_bits == index then is_set sector (k % sector_bits) else bit (bits_in pieces old) k

    outside : (k : ℕ) → k < pieces → (k < 4096 * index) ⊎ (4096 * index ≤ k) → (k < end) ⊎ (end ≤ k) → (k / 4096 ≡ index → ⊥) → is_set new k ≡ is_set old k
    outside k w (inl early) b apart = from.before k early
    outside k w (inr low) (inl high) apart = absurd (apart (omega (arith, e)))
    outside k w (inr low) (inr late) apart = from.behind k late

    by : (k : ℕ) → k < pieces → (b : Bool) → (k / 4096 == index) ≡ b → (if b then is_set sector (k % 4096) else bit (bits_in pieces old) k) ≡ is_set new k
    by k w true q =
        let here : k / 4096 ≡ index = eqb-true (k / 4096) index q in
        let low : 4096 * index ≤ k = omega arith in
        let high : k < end = omega (arith, e) in
        let at : k % 4096 ≡ k - 4096 * index = omega arith in
        ap (is_set sector) at ∙ sym (from.inside k low high)
    by k w false q = kept-bit pieces old kept k ∙ sym (outside k w (cases_lt k (4096 * index)) (cases_lt k end) (λ here. true≢false (sym (eq-eqb (k / 4096) index here) ∙ q)))

-- ---- bits as bytes

one_flag : (x : ℕ) → x < 2 → one_if (eqb x 1) ≡ x
one_flag zero w = refl
one_flag (suc zero) w = refl
one_flag (suc (suc x)) w = absurd (omega arith)

byte_sum : (b : ℕ) → b < 256 → 128 * (b / 128 % 2) + 64 * (b / 64 % 2) + 32 * (b / 32 % 2) + 16 * (b / 16 % 2) + 8 * (b / 8 % 2) + 4 * (b / 4 % 2) + 2 * (b / 2 % 2) + b / 1 % 2 ≡ b
byte_sum b w = omega arith

drop_bit : (bits : List Bool) (n r : ℕ) → bit (drop n bits) r ≡ bit bits (n + r)
drop_bit bits n r = get_or-drop n bits r false

byte_is : (bits : List Bool) (bytes : List ℕ) (j : ℕ) → ((k : ℕ) → bit bits k ≡ is_set bytes k) → get_or bytes j 0 < 256 → byte_of (drop (8 * j) bits) ≡ get_or bytes j 0
unfolding is_set
byte_is bits bytes j agree fits = rw (
  place 0 (omega arith),
  place 1 (omega arith),
  place 2 (omega arith),
  place 3 (omega arith),
  place 4 (omega arith),
  place 5 (omega arith),
  place 6 (omega arith),
  place 7 (omega arith),
)
    (byte_sum (get_or bytes j 0) fits)
  where
    place : (r : ℕ) → r < 8 → one_if (bit (drop (8 * j) bits) r) ≡ bit_at (get_or bytes j 0) (7 - r)
    place r w =
        let byte : (8 * j + r) / 8 ≡ j = omega arith in
        let spot : 7 - (8 * j + r) % 8 ≡ 7 - r = omega arith in
        let is : bit (drop (8 * j) bits) r ≡ eqb (bit_at (get_or bytes j 0) (7 - r)) 1 =
        drop_bit bits (8 * j) r ∙ agree (8 * j + r) ∙ ap₂ (λ (x y : ℕ). eqb (bit_at (get_or bytes x 0) y) 1) byte spot in
        ap one_if is ∙ one_flag (bit_at (get_or bytes j 0) (7 - r)) (bit_at-lt (get_or bytes j 0) (7 - r))

-- the bytes of flags that agree with the bits of some bytes are those bytes
pub packed-is : (n j : ℕ) (bits : List Bool) (bytes : List ℕ) → ((k : ℕ) → bit bits k ≡ is_set bytes k) → ((i : ℕ) → get_or bytes i 0 < 256) → j + n ≤ length bytes
    → packed n (drop (8 * j) bits) ≡ take n (drop j bytes)
unfolding packed
packed-is zero j bits bytes agree fits within = refl
packed-is (suc n) j bits bytes agree fits within =
    let next : 8 * j + 8 ≡ 8 * (j + 1) = omega arith in
    let rest : drop 8 (drop (8 * j) bits) ≡ drop (8 * (j + 1)) bits = drop-drop 8 (8 * j) bits ∙ ap (λ (m : ℕ). drop m bits) next in
    let there : take (suc n) (drop j bytes) ≡ get_or bytes j 0 ∷ take n (drop (j + 1) bytes) = ap (take (suc n)) (drop_more bytes j 0 (omega arith)) in
    ap₂ (λ (x : ℕ) (xs : List ℕ). x ∷ xs) (byte_is bits bytes j agree (fits j))
    (ap (packed n) rest ∙ packed-is n (j + 1) bits bytes agree fits (omega arith)) ∙ sym there

-- a sector of so many pieces begins before the last
pub before_end : (pieces index : ℕ) → index < div_up pieces sector_bits → 4096 * index < pieces
unfolding div_up
before_end pieces index w = omega (arith, w)

-- and it lies within the bytes
pub sector_within : (pieces index : ℕ) (bytes : List ℕ) → AreKept pieces bytes → index < div_up pieces sector_bits → 512 * index + 512 ≤ length bytes
sector_within pieces index bytes kept w = omega (arith, kept.long)

-- the bytes of so many bits
pub bytes_count : (n : ℕ) → div_up n 8 ≡ (n + 7) / 8
unfolding div_up
bytes_count n = let e : n + 8 - 1 ≡ n + 7 = omega arith in ap (λ (m : ℕ). m / 8) e

-- ---- all of some bits

pub all_numbers : (p : ℕ → Bool) (a n : ℕ) → ((k : ℕ) → a ≤ k → k < a + n → p k ≡ true) → list_all p (numbers a n) ≡ true
unfolding numbers
all_numbers p a zero h = refl
all_numbers p a (suc n) h = rw (h a (omega arith) (omega arith)) (all_numbers p (a + 1) n (λ k low high. h k (omega arith) (omega arith)))

pub not_all_numbers : (p : ℕ → Bool) (a n k : ℕ) → a ≤ k → k < a + n → p k ≡ false → list_all p (numbers a n) ≡ false
unfolding numbers
not_all_numbers p a zero k low high h = absurd (omega arith)
not_all_numbers p a (suc n) k low high h = by (cases_eq k a) (λ apart. not_all_numbers p (a + 1) n k (omega arith) (omega arith) h)
  where
    second : (x b : Bool) → b ≡ false → (x && b) ≡ false
    second true b e = e
    second false b e = refl

    by : (k ≡ a) ⊎ (k ≡ a → ⊥) → ((k ≡ a → ⊥) → list_all p (numbers (a + 1) n) ≡ false) → (p a && list_all p (numbers (a + 1) n)) ≡ false
    by (inl e) rest = let f : p a ≡ false = ap p (sym e) ∙ h in rw f refl
    by (inr apart) rest = second (p a) (list_all p (numbers (a + 1) n)) (rest apart)

pub all_same : (p q : ℕ → Bool) (ks : List ℕ) → ((k : ℕ) → p k ≡ q k) → list_all p ks ≡ list_all q ks
all_same p q [] h = refl
all_same p q (k ∷ ks) h = ap₂ (λ (x y : Bool). x && y) (h k) (all_same p q ks h)

-- whether all of them are set, as a test found it
pub found_all : (b : Bool) (first n end : ℕ) (bytes : List ℕ) → first + n ≡ end
    → MatchBool b (AllSet first end bytes) (SomeClear first end bytes) → b ≡ list_all (is_set bytes) (numbers first n)
found_all true first n end bytes e h = sym (all_numbers (is_set bytes) first n (λ k low high. h k low (omega (arith, e))))
found_all false first n end bytes e h = sym (not_all_numbers (is_set bytes) first n h.0 h.1 (omega (arith, e, h.2)) h.3)

-- ---- some sectors

pub sectors_within : (pieces index count : ℕ) (bytes : List ℕ) → AreKept pieces bytes → index + count ≤ div_up pieces sector_bits → 512 * index + 512 * count ≤ length bytes
sectors_within pieces index count bytes kept w = omega (arith, kept.long)

pub kept-clear : (pieces : ℕ) (old : List ℕ) → AreKept pieces old → AreKept pieces (replicate (length old) 0)
kept-clear pieces old kept = record { long = length-replicate {A = ℕ} (length old) 0 ∙ kept.long; clear = λ k far. is_set-zeros (length old) k }
