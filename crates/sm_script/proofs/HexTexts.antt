-- The digits that the library writes are those of a printed reply.
use Rattle.std.proofs.Common.{◌≡◌, ℕ, zero, suc, ◌+◌, ◌*◌, ◌/◌, ◌%◌, ◌<◌, ◌==◌, inl, inr, Bool, true, ◌&&◌, List, [], ◌∷◌, ◌++◌, length, take, drop, append_assoc, slice_index, Result, Ok, Err, OnOk, arith, refl, sym, ap, ◌∙◌}
use Rattle.std.proofs.lemmas.Bool.{and_parts, cases_lt, eqb-true}
use Rattle.std.proofs.Math.Seq.{take-add}
use Rattle.std.proofs.lemmas.List.{take_at, take-append-drop}
use Rattle.uuid.specs.Text.{hex_digit, lower}
use Rattle.hex.specs.Hex.{encode_lower, encode_with, lower_digits}
use Rattle.hex.proofs.HexLemmas.{length-encode_with}
use Rattle.sm_machine.specs.Replies.{hex_text}

-- the digit of the table and the digit of the text, which compute
abbrev same_at : ℕ → Bool
same_at d = hex_digit lower d == slice_index lower_digits d

abbrev all_same : ℕ → Bool
all_same zero = true
all_same (suc n) = same_at n && all_same n

all_same-at : (n d : ℕ) → all_same n ≡ true → d < n → same_at d ≡ true
all_same-at zero d h lt = absurd (omega arith)
all_same-at (suc n) d h lt =
    let parts = and_parts (same_at n) (all_same n) h in
    elim (cases_lt d n) [
      | inl below ↦ all_same-at n d parts.1 below
      | inr top ↦
          let e : d ≡ n = omega arith in
          rw e parts.0
    ]

digit_same : (d : ℕ) → d < 16 → hex_digit lower d ≡ slice_index lower_digits d
digit_same d lt = eqb-true (hex_digit lower d) (slice_index lower_digits d) (all_same-at 16 d refl lt)

pub hex_text-encode : (bytes : List ℕ) → ((k : ℕ) → slice_index bytes k < 256) → encode_lower bytes ≡ hex_text bytes
unfolding hex_text encode_with
hex_text-encode [] small = refl
hex_text-encode (b ∷ bytes) small =
    let fits : b < 256 = small 0 in
    let high = sym (digit_same (b / 16) (omega arith)) in
    let low = sym (digit_same (b % 16) (omega arith)) in
    let rest = hex_text-encode bytes (λ k. small (suc k)) in
    rw (high, low, rest) refl

-- the front of a buffer that was written to
pub hex_word : {E U : Type 0} (r : Result U E) (u : U) (bytes output rest : List ℕ) → ((k : ℕ) → slice_index bytes k < 256) → r ≡ Ok u
    → OnOk r (output ≡ encode_lower bytes) → take (2 * length bytes) (output ++ rest) ≡ hex_text bytes
hex_word (Ok v) u bytes output rest small ok written =
    take_at output rest (2 * length bytes) (ap length written ∙ length-encode_with lower_digits bytes) ∙ written ∙ hex_text-encode bytes small
hex_word (Err e) u bytes output rest small ok written = cc

-- digits of a front and of what stands behind it
pub hex_text-append : (front rest : List ℕ) → hex_text (front ++ rest) ≡ hex_text front ++ hex_text rest
unfolding hex_text
hex_text-append [] rest = refl
hex_text-append (b ∷ front) rest = ap (λ l. hex_digit lower (b / 16) ∷ hex_digit lower (b % 16) ∷ l) (hex_text-append front rest)

-- a piece of some bytes, from a place on
pub hex_step : (bytes : List ℕ) (done k : ℕ) (rest piece : List ℕ) → rest ≡ drop done bytes → piece ≡ take k rest → length piece ≡ k
    → hex_text (take done bytes) ++ hex_text piece ≡ hex_text (take (done + length piece) bytes)
hex_step bytes done k rest piece behind front long =
    let same : piece ≡ take (length piece) (drop done bytes) = front ∙ ap (λ n. take n rest) (sym long) ∙ ap (take (length piece)) behind in
    ap (λ l. hex_text (take done bytes) ++ hex_text l) same ∙ sym (hex_text-append (take done bytes) (take (length piece) (drop done bytes)))
    ∙ ap hex_text (sym (take-add done (length piece) bytes))

pub hex_around : (bytes : List ℕ) (done k : ℕ) (rest piece : List ℕ) → rest ≡ drop done bytes → piece ≡ take k rest → length piece ≡ k
    → hex_text (take done bytes) ++ (hex_text piece ++ hex_text (drop (done + length piece) bytes)) ≡ hex_text bytes
hex_around bytes done k rest piece behind front long =
    sym (append_assoc (hex_text (take done bytes)) (hex_text piece) (hex_text (drop (done + length piece) bytes)))
    ∙ ap (λ l. l ++ hex_text (drop (done + length piece) bytes)) (hex_step bytes done k rest piece behind front long)
    ∙ sym (hex_text-append (take (done + length piece) bytes) (drop (done + length piece) bytes))
    ∙ ap hex_text (take-append-drop (done + length piece) bytes)
