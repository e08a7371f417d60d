-- The values that the libraries read, and those that the words of a line spell.
use Rattle.std.proofs.Common.{◌≡◌, ℕ, ◌%◌, ◌^◌, ◌<◌, ◌≤◌, ◌==◌, ◌⊎◌, inl, inr, Bool, true, false, ◌&&◌, List, [], ◌∷◌, length, slice_index, Option, Some, None, Result, Ok, Err, IsOk, IfOk, MatchResult, ◌↔◌, if◌then◌else◌, nat_lt, nat_le, Bor, arith, refl, sym, ap, subst, ◌∙◌}
use Rattle.std.specs.Prelude.{not, ◌||◌}
use Rattle.std.specs.List.{list_all}
use Rattle.std.specs.Char.{is_ascii_digit}
use Rattle.std.specs.Result.{result_ok, OkIff}
use Rattle.std.specs.Str.{all_ascii_digits, IsUtf8}
use Rattle.std.specs.Str.Parse.{ParsesUnsigned, digits_value}
use Rattle.std.proofs.lemmas.Bool.{and_parts, cases_lt, leb-true, eqb-true}
use Rattle.std.proofs.lemmas.Bool.Decides.{nat_tests}
use Rattle.std.proofs.lemmas.Str.{IsUtf8-from_ascii}
use Rattle.std.proofs.lemmas.Str.Parse.{IsNumeralModel, numerals_by_value, tells_all_ascii_digits, parse_digits}
use Rattle.std.proofs.lemmas.Fmt.{IsAscii-from_digits}
use Rattle.uuid.specs.Text.{parsed}
use Rattle.sm_machine.specs.Lines.{hex_bytes, is_number, number_of, sectors_of, uuid_of}

-- UUIDs

pub uuid_read : {E : Type 0} (r : Result (List ℕ) E) (word : List ℕ) → (IsOk r ↔ ((u : List ℕ) × (parsed word ≡ Some u)))
    → IfOk r (λ u. Some u ≡ parsed word) → result_ok r ≡ parsed word
uuid_read (Ok u) word ok read = read
uuid_read (Err e) word ok read = by (parsed word) (λ u same. absurd (cc (ok.1 (u, same))))
  where
    by : (o : Option (List ℕ)) → ((u : List ℕ) → o ≡ Some u → ⊥) → None ≡ o
    by None apart = refl
    by (Some u) apart = absurd (apart u refl)

if_true : {A : Type 0} (t : Bool) (p q : A) → t ≡ true → p ≡ (if t then p else q)
if_true true p q h = refl
if_true false p q h = cc

if_false : {A : Type 0} (t : Bool) (p q : A) → t ≡ false → q ≡ (if t then p else q)
if_false true p q h = cc
if_false false p q h = refl

pub uuid_some : (word : List ℕ) → length word ≡ 36 → parsed word ≡ uuid_of word
unfolding uuid_of
uuid_some word long = if_true (length word == 36) (parsed word) None (grind (arith, nat_tests))

pub uuid_none : (word : List ℕ) → (length word ≡ 36 → ⊥) → None ≡ uuid_of word
unfolding uuid_of
uuid_none word other = if_false (length word == 36) (parsed word) None (grind (arith, nat_tests))

-- numbers

-- the test of a word of several digits
pub several_digits : (word : List ℕ) → false ≡ (length word == 0) → true ≡ list_all is_ascii_digit word → (length word ≡ 1 → ⊥)
    → not (slice_index word 0 == 48) ≡ is_number word
several_digits word some digits many =
    let at_least : nat_le 1 (length word) ≡ true = grind (arith, nat_tests) in
    let other : (length word == 1) ≡ false = grind (arith, nat_tests) in
    by (nat_le 1 (length word)) (list_all is_ascii_digit word) (length word == 1) (not (slice_index word 0 == 48)) at_least (sym digits) other
  where
    by : (p q r s : Bool) → p ≡ true → q ≡ true → r ≡ false → s ≡ (p && q && (r || s))
    by true true false s e f g = refl
    by true true true s e f g = cc
    by true false r s e f g = cc
    by false q r s e f g = cc

same_digits : (word : List ℕ) → list_all is_ascii_digit word ≡ all_ascii_digits word
same_digits [] = refl
same_digits (c ∷ word) = ap (λ b. is_ascii_digit c && b) (same_digits word)

own : IsNumeralModel (λ ds. all_ascii_digits ds ≡ true) (digits_value 10)
own = numerals_by_value (λ ds. all_ascii_digits ds ≡ true) tells_all_ascii_digits

-- what the test of a number says
number_parts : (word : List ℕ) → is_number word ≡ true → (0 < length word) × (all_ascii_digits word ≡ true)
number_parts word h =
    let front = and_parts (nat_le 1 (length word) && list_all is_ascii_digit word) _ h in
    let parts = and_parts (nat_le 1 (length word)) (list_all is_ascii_digit word) front.0 in
    (leb-true 1 (length word) parts.0, sym (same_digits word) ∙ parts.1)

pub IsUtf8-number : (word : List ℕ) → is_number word ≡ true → IsUtf8 word
IsUtf8-number word h =
    IsUtf8-from_ascii word (IsAscii-from_digits word (own.to word (number_parts word h).1))

given : (t s : Bool) (v : ℕ) → t ≡ true → s ≡ true → Some v ≡ (if t && s then Some v else None)
given true true v h k = refl
given true false v h k = cc
given false s v h k = cc

not_given : (t s : Bool) (v : ℕ) → s ≡ false → None ≡ (if t && s then Some v else None)
not_given true true v h = cc
not_given true false v h = refl
not_given false s v h = refl

-- the text that was made of bytes
pub text_is : {E : Type 0} (r : Result (Bor (List ℕ)) E) (word : List ℕ) (Q : E → Type 0) (text : Bor (List ℕ))
    → MatchResult r (λ s. (s.now ≡ word) × IsUtf8 word) (λ e. ¬ (IsUtf8 word) × Q e) → Some text ≡ result_ok r → text.now ≡ word
text_is (Ok s) word Q text told out = let same : text ≡ s = cc in ap (λ (x : Bor (List ℕ)). x.now) same ∙ told.0
text_is (Err x) word Q text told out = cc

pub text_is_some : {E : Type 0} (r : Result (Bor (List ℕ)) E) (word : List ℕ) (Q : E → Type 0) → IsUtf8 word
    → MatchResult r (λ s. (s.now ≡ word) × IsUtf8 word) (λ e. ¬ (IsUtf8 word) × Q e) → None ≡ result_ok r → ⊥
text_is_some (Ok s) word Q is told out = cc
text_is_some (Err x) word Q is told out = told.0 is

pub number_none : (word : List ℕ) → is_number word ≡ false → None ≡ number_of word
unfolding number_of
number_none word h = by (is_number word) (nat_lt (digits_value 10 word) (2 ^ 64)) h
  where
    by : (t s : Bool) → t ≡ false → None ≡ (if t && s then Some (digits_value 10 word) else None)
    by true s e = cc
    by false s e = refl

number_by : {E : Type 0} (r : Result ℕ E) (word : List ℕ) → is_number word ≡ true
    → OkIff r ((0 < length word) × (digits_value 10 word < 2 ^ 64)) (digits_value 10 word) → result_ok r ≡ number_of word
unfolding number_of
number_by (Ok n) word h told =
    let small : nat_lt (digits_value 10 word) (2 ^ 64) ≡ true = grind (arith, nat_tests, told.0.1) in
    ap Some told.1 ∙ given (is_number word) (nat_lt (digits_value 10 word) (2 ^ 64)) (digits_value 10 word) h small
number_by (Err e) word h told =
    not_given (is_number word) (nat_lt (digits_value 10 word) (2 ^ 64)) (digits_value 10 word) (by (cases_lt (digits_value 10 word) (2 ^ 64)))
  where
    by : (digits_value 10 word < 2 ^ 64) ⊎ (2 ^ 64 ≤ digits_value 10 word) → nat_lt (digits_value 10 word) (2 ^ 64) ≡ false
    by (inl small) = absurd (told ((number_parts word h).0, small))
    by (inr large) = grind (arith, nat_tests, large)

pub number_read : {E : Type 0} (r : Result ℕ E) (text word : List ℕ) → text ≡ word → is_number word ≡ true → ParsesUnsigned 64 10 text r
    → result_ok r ≡ number_of word
number_read r text word same h told =
    number_by r word h (parse_digits own 64 word r (subst (λ (t : List ℕ). ParsesUnsigned 64 10 t r) same told) (number_parts word h).1)

-- whole sectors

-- a word of as many digits as whole sectors have
pub sectors_whole : (word : List ℕ) → false ≡ (length word == 0) → length word % 1024 ≡ 0 → hex_bytes word ≡ sectors_of word
unfolding sectors_of
sectors_whole word some whole =
    let large : nat_le 1024 (length word) ≡ true = grind (arith, nat_tests) in
    let even : (length word % 1024 == 0) ≡ true = grind (arith, nat_tests) in
    by (nat_le 1024 (length word)) (length word % 1024 == 0) large even
  where
    by : (t s : Bool) → t ≡ true → s ≡ true → hex_bytes word ≡ (if t && s then hex_bytes word else None)
    by true true h k = refl
    by true false h k = cc
    by false s h k = cc

pub sectors_none : (word : List ℕ) → (0 < length word → length word % 1024 ≡ 0 → ⊥) → sectors_of word ≡ None
unfolding sectors_of
sectors_none word apart =
    by (nat_le 1024 (length word)) (length word % 1024 == 0)
    (λ large whole. apart (let h : 1024 ≤ length word = leb-true 1024 (length word) large in omega arith) (eqb-true (length word % 1024) 0 whole))
  where
    by : (t s : Bool) → (t ≡ true → s ≡ true → ⊥) → (if t && s then hex_bytes word else None) ≡ None
    by true true h = absurd (h refl refl)
    by true false h = refl
    by false s h = refl
