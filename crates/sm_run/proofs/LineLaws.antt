-- How bytes are cut into lines, and what the buffer of a line keeps.
use Rattle.std.proofs.Common.{◌≡◌, ◌≢◌, ◌⊎◌, inl, inr, All, ℕ, ◌+◌, ◌-◌, min, ◌<◌, ◌≤◌, arith, Bool, true, false, not, ◌&&◌, List, [], ◌∷◌, ◌++◌, length, take, None, refl, sym, ap, ◌∙◌, nat_eq}
use Rattle.std.proofs.lemmas.Bool.{cases_lt}
use Rattle.std.proofs.lemmas.Bool.Decides.{nat_tests}
use Rattle.std.proofs.lemmas.List.Elements.{All-head, All-tail}
use Rattle.std.proofs.Math.Seq.{take-append-add}
use Rattle.std.proofs.lemmas.List.{take_all, take-append-le, take-take, length-take}
use Rattle.sm_machine.specs.Lines.{line_limit, lines, onto, spelled}
use Rattle.sm_run.specs.Parts.{front_of, is_in_line}
use Rattle.sm_run.specs.Runs.{ended, onto_ended}

parts : (x y : Bool) → (not x && y) ≡ true → (x ≡ false) × (y ≡ true)
parts true y h = absurd (cc)
parts false y h = (refl, h)

joined : (x y : Bool) → x ≡ false → y ≡ true → (not x && y) ≡ true
joined x y e f = rw (e, f) refl

head_in_line : (b : ℕ) (bytes : List ℕ) → is_in_line (b ∷ bytes) ≡ true → (nat_eq b 10 ≡ false) × (is_in_line bytes ≡ true)
unfolding is_in_line
head_in_line b bytes h = parts (nat_eq b 10) (is_in_line bytes) h

pub in_line-none : is_in_line [] ≡ true
unfolding is_in_line
in_line-none = refl

-- bytes of which none ends a line
pub in_line-all : (bytes : List ℕ) → All (λ b. b ≢ 10) bytes → is_in_line bytes ≡ true
unfolding is_in_line
in_line-all [] h = refl
in_line-all (b ∷ bytes) h =
    let other : b ≢ 10 = All-head (λ x. x ≢ 10) b bytes h in
    let fails : nat_eq b 10 ≡ false = grind (arith, nat_tests, other) in
    joined (nat_eq b 10) (is_in_line bytes) fails (in_line-all bytes (All-tail (λ x. x ≢ 10) b bytes h))

-- more bytes that end no line
pub in_line-append : (bytes more : List ℕ) → is_in_line bytes ≡ true → is_in_line more ≡ true → is_in_line (bytes ++ more) ≡ true
unfolding is_in_line
in_line-append [] more h e = e
in_line-append (x ∷ bytes) more h e = let p = head_in_line x bytes h in joined (nat_eq x 10) (is_in_line (bytes ++ more)) p.0 (in_line-append bytes more p.1 e)

onto_line : (t : Bool) (b : ℕ) (line : List ℕ) (rest : List (List ℕ)) → t ≡ false → onto t b (line ∷ rest) ≡ (b ∷ line) ∷ rest
onto_line t b line rest e = rw e refl

onto_ended_line : (t : Bool) (b : ℕ) (line : List ℕ) (rest : List (List ℕ)) → t ≡ false → onto_ended t b (line ∷ rest) ≡ (b ∷ line) ∷ rest
onto_ended_line t b line rest e = rw e refl

-- a line with its newline, and what follows
pub lines-line : (line more : List ℕ) → is_in_line line ≡ true → lines (line ++ 10 ∷ more) ≡ line ∷ lines more
unfolding lines
lines-line [] more h = refl
lines-line (b ∷ line) more h =
    let p = head_in_line b line h in
    ap (onto (nat_eq b 10) b) (lines-line line more p.1) ∙ onto_line (nat_eq b 10) b line (lines more) p.0

pub ended-line : (line more : List ℕ) → is_in_line line ≡ true → ended (line ++ 10 ∷ more) ≡ line ∷ ended more
unfolding ended
ended-line [] more h = refl
ended-line (b ∷ line) more h =
    let p = head_in_line b line h in
    ap (onto_ended (nat_eq b 10) b) (ended-line line more p.1) ∙ onto_ended_line (nat_eq b 10) b line (ended more) p.0

-- a line that the script's end ends
pub lines-last : (b : ℕ) (line : List ℕ) → is_in_line (b ∷ line) ≡ true → lines (b ∷ line) ≡ (b ∷ line) ∷ []
unfolding lines
lines-last b [] h = let p = head_in_line b [] h in ap (λ t. onto t b []) p.0
lines-last b (x ∷ line) h =
    let p = head_in_line b (x ∷ line) h in
    ap (onto (nat_eq b 10) b) (lines-last x line p.1) ∙ onto_line (nat_eq b 10) b (x ∷ line) [] p.0

-- a part of a line is none that a newline ends
pub ended-part : (line : List ℕ) → is_in_line line ≡ true → ended line ≡ []
unfolding ended
ended-part [] h = refl
ended-part (b ∷ line) h =
    let p = head_in_line b line h in
    ap (λ ls. onto_ended (nat_eq b 10) b ls) (ended-part line p.1) ∙ ap (λ t. onto_ended t b []) p.0

-- ---- the buffer

pub front_of-short : (line : List ℕ) → length line ≤ line_limit + 1 → front_of line ≡ line
unfolding front_of
front_of-short line h = take_all (line_limit + 1) line h

-- as many bytes more as there is room for
pub front_of-fill : (line more : List ℕ) (n : ℕ) → length line ≤ line_limit + 1 → n ≡ min (length more) (line_limit + 1 - length line)
    → line ++ take n more ≡ front_of (line ++ more)
unfolding front_of
front_of-fill line more n h is =
    let k = line_limit + 1 - length line in
    let all : length line + k ≡ line_limit + 1 = omega arith in
    ap (λ l. line ++ l) (by k is (cases_lt (length more) k)) ∙ sym (take-append-add line more k) ∙ ap (λ m. take m (line ++ more)) all
  where
    by : (k : ℕ) → n ≡ min (length more) k → (length more < k) ⊎ (k ≤ length more) → take n more ≡ take k more
    by k is (inl h) =
        let same : length more ≤ n = omega (arith, is) in
        let less : length more ≤ k = omega arith in
        take_all n more same ∙ sym (take_all k more less)
    by k is (inr h) =
        let same : n ≡ k = omega (arith, is) in
        ap (λ m. take m more) same

take-step : (n : ℕ) (line more : List ℕ) → take n (take n line ++ more) ≡ take n (line ++ more)
take-step n line more = by (cases_lt (length line) n)
  where
    by : (length line < n) ⊎ (n ≤ length line) → take n (take n line ++ more) ≡ take n (line ++ more)
    by (inl h) = let k : length line ≤ n = omega arith in ap (λ l. take n (l ++ more)) (take_all n line k)
    by (inr h) =
        let long : n ≤ length (take n line) = omega (arith, length-take n line) in
        let same : n ≤ n = omega arith in
        take-append-le n (take n line) more long ∙ take-take n n line same ∙ sym (take-append-le n line more h)

-- more bytes
pub front_of-push : (line more : List ℕ) → front_of (front_of line ++ more) ≡ front_of (line ++ more)
unfolding front_of
front_of-push line more = take-step (line_limit + 1) line more

pub front_of-none : front_of [] ≡ []
front_of-none = front_of-short [] (omega arith)

-- a longer line spells nothing
spelled-long : (line : List ℕ) → line_limit < length line → spelled line ≡ None
unfolding spelled
spelled-long line h = grind (arith, nat_tests)

-- the buffer spells what the line spells, since a line is measured first
pub spelled-front : (line : List ℕ) → spelled (front_of line) ≡ spelled line
unfolding front_of
spelled-front line = by (cases_lt line_limit (length line))
  where
    by : (line_limit < length line) ⊎ (length line ≤ line_limit) → spelled (front_of line) ≡ spelled line
    by (inl h) =
        let long : line_limit < length (take (line_limit + 1) line) = omega (arith, length-take (line_limit + 1) line) in
        spelled-long (take (line_limit + 1) line) long ∙ sym (spelled-long line h)
    by (inr h) = let k : length line ≤ line_limit + 1 = omega arith in ap spelled (take_all (line_limit + 1) line k)
