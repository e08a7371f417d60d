-- The table of digits says what each byte stands for, and what is read of pairs of digits one after the other.
use Rattle.std.proofs.Common.{◌≡◌, ℕ, zero, suc, ◌+◌, ◌*◌, ◌<◌, ◌==◌, Bool, true, false, ◌&&◌, List, [], ◌∷◌, ◌++◌, length, take, drop, append_assoc, slice_index_or, slice_set, Option, Some, None, if◌then◌else◌, inl, inr, arith, refl, sym, ap, ap₂, ◌∙◌}
use Rattle.std.proofs.lemmas.Bool.{and_parts, cases_lt, eqb-true, true≢false}
use Rattle.std.proofs.lemmas.List.{append-nil, drop_all, drop_more, take_more_set, take_all}
use Rattle.uuid.specs.Text.{hex_digit_value}
use Rattle.sm_machine.specs.Lines.{byte_of, hex_bytes}
use Rattle.common_laws.specs.Lists.{◌>>=◌}

-- ---- the table

-- what a table says of a byte
abbrev value_in : ℕ → Option ℕ
value_in v = if v == 255 then None else Some v

abbrev same_value : Option ℕ → Option ℕ → Bool
same_value None None = true
same_value None (Some b) = false
same_value (Some a) None = false
same_value (Some a) (Some b) = a == b

same_value-true : (p q : Option ℕ) → same_value p q ≡ true → p ≡ q
same_value-true None None e = refl
same_value-true None (Some b) e = absurd (true≢false (sym e))
same_value-true (Some a) None e = absurd (true≢false (sym e))
same_value-true (Some a) (Some b) e = ap Some (eqb-true a b e)

-- whether it says of each byte below a number what the byte stands for
abbrev pub all_right : List ℕ → ℕ → Bool
all_right table zero = true
all_right table (suc n) = same_value (value_in (slice_index_or table n 0)) (hex_digit_value n) && all_right table n

all_right-at : (table : List ℕ) (n d : ℕ) → all_right table n ≡ true → d < n → value_in (slice_index_or table d 0) ≡ hex_digit_value d
all_right-at table zero d h lt = absurd (omega arith)
all_right-at table (suc n) d h lt =
    let parts = and_parts (same_value (value_in (slice_index_or table n 0)) (hex_digit_value n)) (all_right table n) h in
    elim (cases_lt d n) [
      | inl below ↦ all_right-at table n d parts.1 below
      | inr top ↦
          let e : d ≡ n = omega arith in
          rw e (same_value-true _ _ parts.0)
    ]

pub digit_none : (table : List ℕ) (d : ℕ) → slice_index_or table d 0 ≡ 255 → d < 256 → all_right table 256 ≡ true → None ≡ hex_digit_value d
digit_none table d is fits right = sym (ap value_in is) ∙ all_right-at table 256 d right fits

pub digit_some : (table : List ℕ) (d : ℕ) → (slice_index_or table d 0 ≡ 255 → ⊥) → d < 256 → all_right table 256 ≡ true → Some (slice_index_or table d 0) ≡ hex_digit_value d
digit_some table d other fits right =
    let v = slice_index_or table d 0 in
    ap (λ (b : Bool). if b then None else Some v) (sym (no (v == 255) refl)) ∙ all_right-at table 256 d right fits
  where
    no : (b : Bool) → (slice_index_or table d 0 == 255) ≡ b → (slice_index_or table d 0 == 255) ≡ false
    no false e = e
    no true e = absurd (other (eqb-true (slice_index_or table d 0) 255 e))

-- ---- pairs

-- bytes in front of others, where those are there
abbrev pub behind : List ℕ → Option (List ℕ) → Option (List ℕ)
behind front None = None
behind front (Some bytes) = Some (front ++ bytes)

pub behind_none : (o : Option (List ℕ)) → o ≡ behind [] o
behind_none None = refl
behind_none (Some bytes) = refl

-- a byte of two digits in front of others
abbrev with_pair : Option ℕ → Option ℕ → Option (List ℕ) → Option (List ℕ)
with_pair None low bytes = None
with_pair (Some h) None bytes = None
with_pair (Some h) (Some l) bytes = behind ((h * 16 + l) ∷ []) bytes

pair_step : (p q : Option ℕ) (o : Option (List ℕ)) → (p >>= (λ h. q >>= (λ l. o >>= (λ bytes. Some ((h * 16 + l) ∷ bytes))))) ≡ with_pair p q o
pair_step None q o = refl
pair_step (Some h) None o = refl
pair_step (Some h) (Some l) None = refl
pair_step (Some h) (Some l) (Some bytes) = refl

pair_read : (high low : ℕ) (digits : List ℕ) → hex_bytes (high ∷ low ∷ digits) ≡ with_pair (hex_digit_value high) (hex_digit_value low) (hex_bytes digits)
unfolding hex_bytes
pair_read high low digits = pair_step (hex_digit_value high) (hex_digit_value low) (hex_bytes digits)

-- the digits of a place
pub pair_at : (digits : List ℕ) (i : ℕ) → 2 * i + 1 < length digits
    → hex_bytes (drop (2 * i) digits) ≡ with_pair (hex_digit_value (slice_index_or digits (2 * i) 0)) (hex_digit_value (slice_index_or digits (2 * i + 1) 0)) (hex_bytes (drop (2 * i + 1 + 1) digits))
pair_at digits i long =
    ap hex_bytes (drop_more digits (2 * i) 0 (omega arith) ∙ ap (λ l. slice_index_or digits (2 * i) 0 ∷ l) (drop_more digits (2 * i + 1) 0 long))
    ∙ pair_read (slice_index_or digits (2 * i) 0) (slice_index_or digits (2 * i + 1) 0) (drop (2 * i + 1 + 1) digits)

module _ (digits bytes : List ℕ) (i : ℕ) (long : 2 * i + 1 < length digits) (read : hex_bytes digits ≡ behind (take i bytes) (hex_bytes (drop (2 * i) digits))) where
  abbrev high : Option ℕ
  high = hex_digit_value (slice_index_or digits (2 * i) 0)

  abbrev low : Option ℕ
  low = hex_digit_value (slice_index_or digits (2 * i + 1) 0)

  abbrev rest : Option (List ℕ)
  rest = hex_bytes (drop (2 * i + 1 + 1) digits)

  here : hex_bytes digits ≡ behind (take i bytes) (with_pair high low rest)
  here = read ∙ ap (behind (take i bytes)) (pair_at digits i long)

  pub no_high : None ≡ high → hex_bytes digits ≡ None
  no_high e = here ∙ ap (λ (o : Option ℕ). behind (take i bytes) (with_pair o low rest)) (sym e)

  pub no_low : (h : ℕ) → Some h ≡ high → None ≡ low → hex_bytes digits ≡ None
  no_low h e f = here ∙ ap₂ (λ (o p : Option ℕ). behind (take i bytes) (with_pair o p rest)) (sym e) (sym f)

  joined : (front : List ℕ) (v : ℕ) (o : Option (List ℕ)) → behind front (behind (v ∷ []) o) ≡ behind (front ++ v ∷ []) o
  joined front v None = refl
  joined front v (Some more) = ap Some (sym (append_assoc front (v ∷ []) more))

  pub pair_more : (h l : ℕ) → Some h ≡ high → Some l ≡ low → i < length bytes
      → hex_bytes digits ≡ behind (take (i + 1) (slice_set bytes i (h * 16 + l))) (hex_bytes (drop (2 * (i + 1)) digits))
  pair_more h l e f below =
      let next : 2 * i + 1 + 1 ≡ 2 * (i + 1) = omega arith in
      here ∙ ap₂ (λ (o p : Option ℕ). behind (take i bytes) (with_pair o p rest)) (sym e) (sym f)
      ∙ joined (take i bytes) (h * 16 + l) rest
      ∙ ap₂ (λ (xs : List ℕ) (n : ℕ). behind xs (hex_bytes (drop n digits))) (sym (take_more_set bytes i (h * 16 + l) below)) next

-- no digits are left
pub all_read : (digits bytes : List ℕ) (i : ℕ) → length digits ≡ 2 * length bytes → length bytes ≡ i → hex_bytes digits ≡ behind (take i bytes) (hex_bytes (drop (2 * i) digits)) → hex_bytes digits ≡ Some bytes
unfolding hex_bytes
all_read digits bytes i twice all read =
    read ∙ ap₂ (λ (xs ds : List ℕ). behind xs (hex_bytes ds)) (take_all i bytes (omega arith)) (drop_all (2 * i) digits (omega arith)) ∙ ap Some (append-nil bytes)

-- ---- one byte

pub byte_other : (word : List ℕ) → (length word ≡ 2 → ⊥) → None ≡ byte_of word
unfolding byte_of
byte_other [] other = refl
byte_other (a ∷ []) other = refl
byte_other (a ∷ b ∷ []) other = absurd (other refl)
byte_other (a ∷ b ∷ c ∷ word) other = refl

first_of : Option (List ℕ) → Option ℕ
first_of None = None
first_of (Some bytes) = Some (slice_index_or bytes 0 0)

byte_first : (word : List ℕ) → length word ≡ 2 → first_of (hex_bytes word) ≡ byte_of word
unfolding byte_of hex_bytes first_of
byte_first [] two = absurd (omega (arith, two))
byte_first (a ∷ []) two = absurd (omega (arith, two))
byte_first (a ∷ b ∷ []) two = by (hex_digit_value a) (hex_digit_value b)
  where
    by : (p q : Option ℕ) → first_of (p >>= (λ h. q >>= (λ l. Some ((h * 16 + l) ∷ [])))) ≡ (p >>= (λ h. q >>= (λ l. Some (h * 16 + l))))
    by None q = refl
    by (Some h) None = refl
    by (Some h) (Some l) = refl
byte_first (a ∷ b ∷ c ∷ word) two = absurd (omega (arith, two))

pub byte_none : (word : List ℕ) → length word ≡ 2 → hex_bytes word ≡ None → None ≡ byte_of word
unfolding first_of
byte_none word two none = ap first_of (sym none) ∙ byte_first word two

pub byte_some : (word bytes : List ℕ) → length word ≡ 2 → hex_bytes word ≡ Some bytes → Some (slice_index_or bytes 0 0) ≡ byte_of word
unfolding first_of
byte_some word bytes two some = ap first_of (sym some) ∙ byte_first word two
