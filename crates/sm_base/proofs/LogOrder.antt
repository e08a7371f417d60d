-- Volumes of logs stand in the order of their disks' UUIDs: what is less as bytes is less as a name is spelled.
use Rattle.std.proofs.Common.{◌≡◌, ◌⊎◌, inl, inr, ℕ, zero, suc, ◌+◌, ◌*◌, ◌/◌, ◌%◌, ◌<◌, ◌≤◌, ◌==◌, Bool, true, false, cond, List, [], ◌∷◌, length, get_or, refl, sym, ap, ◌∙◌, arith}
use Rattle.std.proofs.lemmas.Bool.{cases_lt}
use Rattle.std.proofs.lemmas.Bool.Decides.{nat_tests}
use Rattle.std.specs.Cmp.{nat_cmp_is}
use Rattle.std.specs.Cmp.Lexicographic.{slice_cmp}
use Rattle.std.specs.Ordering.{nat_cmp, ordering_then}
use Rattle.std.specs.declared.cmp.Ordering.{Ordering}
use Rattle.std.specs.declared.cmp.Ordering.TheVariants.{Less, Equal, Greater}
use Rattle.uuid.specs.Text.{digit_place, hex_digit, hyphen_place, is_hyphen_place, lower, nibble}
use Rattle.uuid.proofs.TextLemmas.{by_index_at, nibble_even, nibble_odd, nibble_small}
use Rattle.sm_base.specs.Names.{IsUuid, name_cmp, spelling, uuid_text}
use Rattle.sm_base.specs.declared.names.Name.TheVariants.{Cbt}
use Rattle.sm_base.proofs.TextLemmas.{length-uuid_text}

-- ---- where two lists of one length differ first, the first is less

pub record IsLessAt (xs ys : List ℕ) : Type 0 where
  pub at : ℕ
  pub within : at < length xs
  pub same : (i : ℕ) → i < at → get_or xs i 0 ≡ get_or ys i 0
  pub less : get_or xs at 0 < get_or ys at 0

number_less : (x y : ℕ) → nat_cmp x y ≡ Less → x < y
number_less x y e = grind (arith, nat_tests, e)

number_same : (x y : ℕ) → nat_cmp x y ≡ Equal → x ≡ y
number_same x y e = grind (arith, nat_tests, e)

less_at : (xs ys : List ℕ) → length xs ≡ length ys → slice_cmp nat_cmp xs ys ≡ Less → IsLessAt xs ys
less_at [] [] long e = absurd (let x = e in cc)
less_at [] (y ∷ ys) long e = absurd (omega (arith, long))
less_at (x ∷ xs) [] long e = absurd (omega (arith, long))
less_at (x ∷ xs) (y ∷ ys) long e = by (λ f. less_at xs ys (omega (arith, long)) f) (nat_cmp x y) refl e
  where
    onward : (x ≡ y) → IsLessAt xs ys → IsLessAt (x ∷ xs) (y ∷ ys)
    onward is w = record { at = suc w.at; within = omega (arith, w.within); same = same; less = w.less }
      where
        same : (i : ℕ) → i < suc w.at → get_or (x ∷ xs) i 0 ≡ get_or (y ∷ ys) i 0
        same zero below = is
        same (suc i) below = w.same i (omega (arith, below))

    by : (slice_cmp nat_cmp xs ys ≡ Less → IsLessAt xs ys) → (o : Ordering) → nat_cmp x y ≡ o → ordering_then o (slice_cmp nat_cmp xs ys) ≡ Less → IsLessAt (x ∷ xs) (y ∷ ys)
    by rest Less is f = record { at = 0; within = omega arith; same = λ i below. absurd (omega (arith, below)); less = number_less x y is }
    by rest Equal is f = onward (number_same x y is) (rest f)
    by rest Greater is f = absurd (let z = f in cc)

at_less : (xs ys : List ℕ) (k : ℕ) → k < length xs → length xs ≡ length ys → ((i : ℕ) → i < k → get_or xs i 0 ≡ get_or ys i 0) → get_or xs k 0 < get_or ys k 0
    → slice_cmp nat_cmp xs ys ≡ Less
at_less [] ys k within long same less = absurd (omega (arith, within))
at_less (x ∷ xs) [] k within long same less = absurd (omega (arith, long))
at_less (x ∷ xs) (y ∷ ys) zero within long same less = ap (λ o. ordering_then o (slice_cmp nat_cmp xs ys)) (sym (nat_cmp_is x y Less less))
at_less (x ∷ xs) (y ∷ ys) (suc k) within long same less =
    ap (λ o. ordering_then o (slice_cmp nat_cmp xs ys)) (sym (nat_cmp_is x y Equal (same 0 (omega arith))))
    ∙ at_less xs ys k (omega (arith, within)) (omega (arith, long)) (λ i below. same (suc i) (omega (arith, below))) less

-- ---- the digits of a UUID

-- what stands in a place of the text
abbrev place : List ℕ → ℕ → ℕ
place u k = cond (is_hyphen_place k) 45 (hex_digit lower (nibble u (digit_place k)))

text_at : (u : List ℕ) (k : ℕ) → k < 36 → get_or (uuid_text u) k 0 ≡ place u k
unfolding uuid_text
text_at u k within = by_index_at 36 (place u) k 0 within

digit_less : (x y : ℕ) → x < y → y < 16 → hex_digit lower x < hex_digit lower y
digit_less x y less small = grind (arith, nat_tests)

-- texts whose first digits that differ stand in this order
digits_less : (a b : List ℕ) (d : ℕ) → d < 32 → ((e : ℕ) → e < d → nibble a e ≡ nibble b e) → nibble a d < nibble b d → slice_cmp nat_cmp (uuid_text a) (uuid_text b) ≡ Less
digits_less a b d within same less =
    let p = hyphen_place d in
    let below : p < 36 = grind (arith, nat_tests) in
    let no_hyphen : is_hyphen_place p ≡ false = grind (arith, nat_tests) in
    let back : digit_place p ≡ d = grind (arith, nat_tests) in
    at_less (uuid_text a) (uuid_text b) p (omega (arith, below, length-uuid_text a)) (length-uuid_text a ∙ sym (length-uuid_text b))
    (λ i under. text_at a i (omega (arith, under, below)) ∙ before i under (is_hyphen_place i) refl ∙ sym (text_at b i (omega (arith, under, below))))
    (rw (text_at a p below, text_at b p below, no_hyphen, back) (digit_less (nibble a d) (nibble b d) less (nibble_small b d)))
  where
    before : (i : ℕ) → i < hyphen_place d → (h : Bool) → is_hyphen_place i ≡ h → place a i ≡ place b i
    before i under true is = rw (is) refl
    before i under false is =
        let earlier : digit_place i < d = grind (arith, nat_tests, under, is, within) in
        ap (λ n. cond (is_hyphen_place i) 45 (hex_digit lower n)) (same (digit_place i) earlier)

-- ---- the bytes of a UUID

-- the digits of the bytes before are the same
digits_before : (a b : List ℕ) (k : ℕ) → ((i : ℕ) → i < k → get_or a i 0 ≡ get_or b i 0) → (e : ℕ) → e < 2 * k → nibble a e ≡ nibble b e
digits_before a b k same e below = ap (λ n. cond (e % 2 == 0) (n / 16 % 16) (n % 16)) (same (e / 2) (omega (arith, below)))

pub texts_less : (a b : List ℕ) → IsUuid a → IsUuid b → slice_cmp nat_cmp a b ≡ Less → slice_cmp nat_cmp (uuid_text a) (uuid_text b) ≡ Less
texts_less a b is_a is_b e =
    let w = less_at a b (is_a.long ∙ sym is_b.long) e in
    let k = w.at in
    let x = get_or a k 0 in
    let y = get_or b k 0 in
    let small : y < 256 = is_b.bytes k 0 (omega (arith, w.within, is_a.long, is_b.long)) in
    let within : k < 16 = omega (arith, w.within, is_a.long) in
    by k within (digits_before a b k w.same) w.less small (cases_lt (x / 16) (y / 16))
  where
    by : (k : ℕ) → k < 16 → ((e : ℕ) → e < 2 * k → nibble a e ≡ nibble b e) → get_or a k 0 < get_or b k 0 → get_or b k 0 < 256
        → (get_or a k 0 / 16 < get_or b k 0 / 16) ⊎ (get_or b k 0 / 16 ≤ get_or a k 0 / 16) → slice_cmp nat_cmp (uuid_text a) (uuid_text b) ≡ Less
    by k within before less small (inl high) =
        digits_less a b (2 * k) (omega (arith, within)) before (rw (nibble_even a k, nibble_even b k) (omega (arith, high, small)))
    by k within before less small (inr low) =
        let same : get_or a k 0 / 16 ≡ get_or b k 0 / 16 = omega (arith, low, less) in
        digits_less a b (2 * k + 1) (omega (arith, within))
        (λ e under. on e under (cases_lt e (2 * k)))
        (rw (nibble_odd a k, nibble_odd b k) (omega (arith, same, less)))
      where
        on : (e : ℕ) → e < 2 * k + 1 → (e < 2 * k) ⊎ (2 * k ≤ e) → nibble a e ≡ nibble b e
        on e under (inl earlier) = before e earlier
        on e under (inr last) =
            let is : e ≡ 2 * k = omega (arith, under, last) in
            rw (is, nibble_even a k, nibble_even b k) (ap (λ n. n % 16) (omega (arith, low, less)))

-- of two logs' volumes that stands first whose disk's UUID is less
pub logs_less : (a b : List ℕ) → IsUuid a → IsUuid b → slice_cmp nat_cmp a b ≡ Less → name_cmp (Cbt a) (Cbt b) ≡ Less
unfolding name_cmp spelling
logs_less a b is_a is_b e = texts_less a b is_a is_b e
