-- Texts in a buffer, and UUIDs that are read.
use Rattle.std.proofs.Common.{◌≡◌, ℕ, ◌+◌, ◌*◌, ◌<◌, ◌≤◌, List, [], ◌∷◌, ◌++◌, zero, suc, Bool, true, false, ◌&&◌, ◌==◌, length, length-append, append_assoc, take, drop, get_or, slice_index, Option, Some, None, IfSome, Result, Ok, Err, IsOk, IfOk, ◌↔◌, if◌then◌else◌, inl, arith, refl, sym, ap, subst, ◌∙◌}
use Rattle.std.proofs.lemmas.List.{drop-drop, take_at, drop_at, length-take-le}
use Rattle.std.proofs.lemmas.Bool.Decides.{nat_tests}
use Rattle.std.specs.List.{list_all}
use Rattle.std.specs.Result.{result_ok}
use Rattle.uuid.specs.Text.{is_hex_digit, value_of, byte_of_digits, by_index, digits_of, has_hyphens, has_urn_prefix, parsed, parsed_simple, parsed_hyphenated, parsed_braced, parsed_urn, lower, open_brace, close_brace}
use Rattle.uuid.proofs.TextLemmas.{by_index_length, by_index_at}
use Rattle.uuid.proofs.RoundTrips.{parses_hyphenated, parse_gives}
use borrow.Rule.Slice.PartMut.{put_mid}
use Rattle.sm_base.specs.Names.{IsUuid, uuid_text}
use Rattle.sm_base.specs.Texts.{placed}

-- a write to a part of the buffer
pub put_mid-placed : (at k : ℕ) (text buffer : List ℕ) → k ≡ length text → put_mid at k buffer text ≡ placed at text buffer
unfolding placed
put_mid-placed at k text buffer e = ap (λ r. take at buffer ++ (text ++ r)) (drop-drop k at buffer ∙ ap (λ n. drop (at + n) buffer) e)

-- a second text right behind the first
pub placed-placed : (at : ℕ) (first second buffer : List ℕ) → at ≤ length buffer
    → placed (at + length first) second (placed at first buffer) ≡ placed at (first ++ second) buffer
unfolding placed
placed-placed at first second buffer within =
    let rest = drop (at + length first) buffer in
    let front = take at buffer ++ first in
    let regroup : take at buffer ++ (first ++ rest) ≡ front ++ rest = sym (append_assoc (take at buffer) first rest) in
    let long : length front ≡ at + length first = omega (arith, length-append (take at buffer) first, length-take-le at buffer within) in
    let kept : take (at + length first) (take at buffer ++ (first ++ rest)) ≡ front =
    ap (take (at + length first)) regroup ∙ take_at front rest (at + length first) long in
    let past : drop (at + length first) (take at buffer ++ (first ++ rest)) ≡ rest =
    ap (drop (at + length first)) regroup ∙ drop_at front rest (at + length first) long in
    let behind : drop (at + length first + length second) (take at buffer ++ (first ++ rest)) ≡ drop (at + length (first ++ second)) buffer =
    sym (drop-drop (length second) (at + length first) (take at buffer ++ (first ++ rest))) ∙ ap (drop (length second)) past
    ∙ drop-drop (length second) (at + length first) buffer
    ∙ ap (λ n. drop n buffer) (omega (arith, length-append first second)) in
    rw (kept, behind) (append_assoc (take at buffer) first (second ++ drop (at + length (first ++ second)) buffer)
    ∙ ap (λ r. take at buffer ++ r) (sym (append_assoc first second (drop (at + length (first ++ second)) buffer))))

-- a text at the buffer's beginning
pub placed-zero : (text buffer : List ℕ) → placed 0 text buffer ≡ text ++ drop (length text) buffer
unfolding placed
placed-zero text buffer = ap (λ n. text ++ drop n buffer) (omega arith)

-- a UUID's text has 36 characters, whatever the list
pub length-uuid_text : (u : List ℕ) → length (uuid_text u) ≡ 36
unfolding uuid_text
length-uuid_text u = by_index_length 36 _

-- a UUID's text reads back
pub parsed-uuid_text : (u : List ℕ) → IsUuid u → Some u ≡ parsed (uuid_text u)
unfolding uuid_text
parsed-uuid_text u is = parses_hyphenated lower u (inl refl) is.long is.bytes

-- UUIDs with one text are one
pub uuid_text-injective : (u v : List ℕ) → IsUuid u → IsUuid v → uuid_text u ≡ uuid_text v → u ≡ v
uuid_text-injective u v is_u is_v e =
    let same : Some u ≡ Some v = parsed-uuid_text u is_u ∙ ap parsed e ∙ sym (parsed-uuid_text v is_v) in
    cc

if_some : (b : Bool) (x u : List ℕ) → (if b then Some x else None) ≡ Some u → (b ≡ true) × (x ≡ u)
if_some true x u e = (refl, cc)
if_some false x u e = cc

and_both : (a b : Bool) → (a && b) ≡ true → (a ≡ true) × (b ≡ true)
and_both true true e = (refl, refl)
and_both true false e = cc
and_both false b e = cc

choose : (b : Bool) (p q : Option (List ℕ)) (u : List ℕ) (P : Type 0) → (p ≡ Some u → P) → (q ≡ Some u → P)
    → (if b then p else q) ≡ Some u → P
choose true p q u P yes_p yes_q e = yes_p e
choose false p q u P yes_p yes_q e = yes_q e

nothing : (u : List ℕ) (P : Type 0) → None ≡ Some u → P
nothing u P e = cc

digit_small : (c : ℕ) → is_hex_digit c ≡ true → value_of c < 16
digit_small c hex = grind (arith, nat_tests)

all_at : (p : ℕ → Bool) (xs : List ℕ) (k : ℕ) → list_all p xs ≡ true → k < length xs → p (get_or xs k 0) ≡ true
all_at p [] k all here = absurd (omega arith)
all_at p (x ∷ xs) zero all here = (and_both (p x) (list_all p xs) all).0
all_at p (x ∷ xs) (suc k) all here = all_at p xs k (and_both (p x) (list_all p xs) all).1 (omega arith)

-- what is read from 32 digits is a UUID
IsUuid-from_simple : (hex u : List ℕ) → parsed_simple hex ≡ Some u → IsUuid u
IsUuid-from_simple hex u e =
    let read = if_some ((length hex == 32) && list_all is_hex_digit hex) (by_index 16 (byte_of_digits hex)) u e in
    let tests = and_both (length hex == 32) (list_all is_hex_digit hex) read.0 in
    let long : length hex ≡ 32 = grind (arith, nat_tests, tests.0) in
    let digit : (k : ℕ) → k < 32 → value_of (get_or hex k 0) < 16 = λ k within.
    digit_small (get_or hex k 0) (all_at is_hex_digit hex k tests.1 (omega arith)) in
    let small : (j : ℕ) (d : ℕ) → j < 16 → get_or (by_index 16 (byte_of_digits hex)) j d < 256 = λ j d within.
    rw (by_index_at 16 (byte_of_digits hex) j d within) (omega (arith, digit (2 * j) (omega arith), digit (2 * j + 1) (omega arith))) in
    let bytes : IsUuid (by_index 16 (byte_of_digits hex)) = record {
      long = by_index_length 16 (byte_of_digits hex);
      bytes = λ j d within. small j d (omega (arith, by_index_length 16 (byte_of_digits hex)));
    } in
    subst IsUuid read.1 bytes

IsUuid-from_hyphenated : (text u : List ℕ) → parsed_hyphenated text ≡ Some u → IsUuid u
IsUuid-from_hyphenated text u e =
    choose ((length text == 36) && has_hyphens text) (parsed_simple (digits_of text)) None u (IsUuid u)
    (IsUuid-from_simple (digits_of text) u) (nothing u (IsUuid u)) e

IsUuid-from_braced : (text u : List ℕ) → parsed_braced text ≡ Some u → IsUuid u
IsUuid-from_braced text u e =
    choose ((length text == 38) && (slice_index text 0 == open_brace) && (slice_index text 37 == close_brace))
    (parsed_hyphenated (take 36 (drop 1 text))) None u (IsUuid u)
    (IsUuid-from_hyphenated (take 36 (drop 1 text)) u) (nothing u (IsUuid u)) e

IsUuid-from_urn : (text u : List ℕ) → parsed_urn text ≡ Some u → IsUuid u
IsUuid-from_urn text u e =
    choose ((length text == 45) && has_urn_prefix text) (parsed_hyphenated (drop 9 text)) None u (IsUuid u)
    (IsUuid-from_hyphenated (drop 9 text) u) (nothing u (IsUuid u)) e

-- what is read from any text is a UUID
pub IsUuid-from_parsed : (text u : List ℕ) → parsed text ≡ Some u → IsUuid u
IsUuid-from_parsed text u e =
    choose (length text == 32) (parsed_simple text) _ u (IsUuid u) (IsUuid-from_simple text u)
    (choose (length text == 36) (parsed_hyphenated text) _ u (IsUuid u) (IsUuid-from_hyphenated text u)
    (choose (length text == 38) (parsed_braced text) _ u (IsUuid u) (IsUuid-from_braced text u)
    (choose (length text == 45) (parsed_urn text) None u (IsUuid u) (IsUuid-from_urn text u) (nothing u (IsUuid u))))) e

-- a call of the reader, and its answer as an option
pub IsUuid-from_read : {E : Type 0} (r : Result (List ℕ) E) (o : Option (List ℕ)) (text : List ℕ) → IfOk r (λ u. Some u ≡ parsed text)
    → o ≡ result_ok r → IfSome o IsUuid
IsUuid-from_read (Ok u) o text read e = subst (λ (v : Option (List ℕ)). IfSome v IsUuid) (sym e) (IsUuid-from_parsed text u (sym read))
IsUuid-from_read (Err x) o text read e = subst (λ (v : Option (List ℕ)). IfSome v IsUuid) (sym e) tt

pub uuid_read : {E : Type 0} (r : Result (List ℕ) E) (o : Option (List ℕ)) (text u : List ℕ) → IsUuid u → text ≡ uuid_text u
    → (IsOk r ↔ ((v : List ℕ) × (parsed text ≡ Some v))) → IfOk r (λ v. Some v ≡ parsed text) → o ≡ result_ok r → o ≡ Some u
uuid_read r o text u is e ok read value =
    value ∙ ap result_ok (parse_gives r text u ok read (parsed-uuid_text u is ∙ ap parsed (sym e)))

-- a text right behind a UUID
pub placed-behind : (at : ℕ) (front u second old middle new : List ℕ) (end : ℕ) → at ≤ length old → middle ≡ placed at (front ++ uuid_text u) old
    → end ≡ at + length front + 36 → new ≡ placed end second middle → new ≡ placed at (front ++ (uuid_text u ++ second)) old
placed-behind at front u second old middle new end within was place now =
    let end_is : end ≡ at + length (front ++ uuid_text u) = omega (arith, length-append front (uuid_text u), length-uuid_text u) in
    now ∙ ap (placed end second) was ∙ ap (λ n. placed n second (placed at (front ++ uuid_text u) old)) end_is
    ∙ placed-placed at (front ++ uuid_text u) second old within
    ∙ ap (λ t. placed at t old) (append_assoc front (uuid_text u) second)
