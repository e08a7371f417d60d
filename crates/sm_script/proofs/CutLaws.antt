-- The words of a line, from its first space on.
use Rattle.std.proofs.Common.{◌≡◌, ℕ, suc, ◌+◌, ◌<◌, ◌≤◌, ◌==◌, ◌⊎◌, inl, inr, Bool, true, false, cond, List, [], ◌∷◌, ◌++◌, length, take, drop, get_or, drop-cons, Option, Some, None, arith, refl, sym, ap, subst, ◌∙◌}
use Rattle.std.specs.Prelude.{⊤, ltb, not, position, option_copied, is_some}
use Rattle.std.specs.List.{position_or_len}
use Rattle.std.proofs.Common.{Bor}
use Rattle.std.proofs.lemmas.Bool.{cases_lt, ltb-true, ltb-false, eqb-true}
use Rattle.std.proofs.lemmas.Bool.Decides.{nat_tests}
use Rattle.std.proofs.lemmas.List.{take-append-drop}
use Rattle.std.proofs.lemmas.List.Sums.{position_or_len_is}
use Rattle.memchr.specs.Find.{IsFirstByte, is_byte}
use Rattle.std.proofs.lemmas.List.Quantifiers.{position-Some}
use Rattle.sm_machine.specs.Lines.{before, words}
use Rattle.sm_script.specs.Cuts.{behind, words_behind}

-- the length of the first word
abbrev front : List ℕ → ℕ
front bytes = position_or_len (λ b. b == 32) bytes

fails : (t : Bool) → ¬ (t ≡ true) → t ≡ false
fails true h = absurd (h refl)
fails false h = refl

-- one byte more, which is a space or not
front_step : (space : Bool) (b : ℕ) (bytes : List ℕ) (n : ℕ) → (n < length bytes → words bytes ≡ take n bytes ∷ words (drop (suc n) bytes))
    → cond (not space) (1 + n) 0 < length (b ∷ bytes)
    → before space b (words bytes) ≡ take (cond (not space) (1 + n) 0) (b ∷ bytes) ∷ words (drop (suc (cond (not space) (1 + n) 0)) (b ∷ bytes))
front_step true b bytes n step within = refl
front_step false b bytes n step within =
    let e : suc n ≡ 1 + n = omega arith in
    let P : ℕ → Type 0 = λ k. before false b (words bytes) ≡ take k (b ∷ bytes) ∷ words (drop (suc k) (b ∷ bytes)) in
    subst P e (ap (before false b) (step (omega arith)))

-- a line with a space
words-front : (bytes : List ℕ) → front bytes < length bytes → words bytes ≡ take (front bytes) bytes ∷ words (drop (suc (front bytes)) bytes)
unfolding words
words-front [] within = absurd (omega arith)
words-front (b ∷ bytes) within = front_step (b == 32) b bytes (front bytes) (words-front bytes) within

whole_step : (space : Bool) (b : ℕ) (bytes : List ℕ) (n : ℕ) → (length bytes ≤ n → words bytes ≡ bytes ∷ [])
    → length (b ∷ bytes) ≤ cond (not space) (1 + n) 0 → before space b (words bytes) ≡ (b ∷ bytes) ∷ []
whole_step true b bytes n step out = absurd (omega arith)
whole_step false b bytes n step out = ap (before false b) (step (omega arith))

-- a line without a space
words-whole : (bytes : List ℕ) → length bytes ≤ front bytes → words bytes ≡ bytes ∷ []
unfolding words
words-whole [] out = refl
words-whole (b ∷ bytes) out = whole_step (b == 32) b bytes (front bytes) (words-whole bytes) out

found : (t : Bool) (n end : ℕ) → Some end ≡ cond t (Some n) None → (t ≡ true) × (n ≡ end)
found true n end e = (refl, cc)
found false n end e = cc

not_found : (t : Bool) (n : ℕ) → None ≡ cond t (Some n) None → t ≡ false
not_found true n e = cc
not_found false n e = refl

-- a line with a space here, the first
pub record IsCut (line : List ℕ) (end : ℕ) : Type 0 where
  pub within : end < length line
  pub words : words line ≡ take end line ∷ words (drop (end + 1) line)
  pub bytes : line ≡ take end line ++ (32 ∷ drop (end + 1) line)

pub IsCut-from_space : (line : List ℕ) (end : ℕ) → Some end ≡ position (λ b. b == 32) line → IsCut line end
IsCut-from_space line end e =
    let at = found _ (front line) end e in
    let place = position-Some (λ b. b == 32) line end 0 (sym e) in
    let within : end < length line = place.0 in
    let space : get_or line end 0 ≡ 32 = eqb-true (get_or line end 0) 32 place.1 in
    let next : suc end ≡ end + 1 = omega arith in
    let P : ℕ → Type 0 = λ k. words line ≡ take k line ∷ words (drop (suc k) line) in
    let Q : ℕ → Type 0 = λ k. words line ≡ take end line ∷ words (drop k line) in
    record {
      within = within;
      words = subst Q next (subst P at.1 (words-front line (ltb-true (front line) (length line) at.0)));
      bytes = sym (take-append-drop end line) ∙ ap (λ l. take end line ++ l) (drop-cons line end 0 within
          ∙ ap (λ b. b ∷ drop (suc end) line) space ∙ ap (λ k. 32 ∷ drop k line) next);
    }

pub words-from_none : (line : List ℕ) → None ≡ position (λ b. b == 32) line → words line ≡ line ∷ []
words-from_none line e = words-whole line (ltb-false (front line) (length line) (not_found _ (front line) e))

-- the first space that a search found is at its position
pub position-from_first : (line : List ℕ) (r : Option ℕ) → IsFirstByte (is_byte 32) line r → r ≡ position (λ b. b == 32) line
position-from_first line None nowhere =
    let at : front line ≡ length line = position_or_len_is (λ b. b == 32) line (length line) 0 (omega arith)
    (λ k below. fails (is_byte 32 (get_or line k 0)) (nowhere k (omega arith) below)) (λ below. absurd (omega arith)) in
    let out : ltb (length line) (length line) ≡ false = grind (arith, nat_tests) in
    sym (ap (λ n. cond (ltb n (length line)) (Some n) None) at ∙ ap (λ t. cond t (Some (length line)) None) out)
position-from_first line (Some i) first =
    let at : front line ≡ i = position_or_len_is (λ b. b == 32) line i 0 (omega (arith, first.0.high))
    (λ k below. fails (is_byte 32 (get_or line k 0)) (first.0.before k (omega arith) below)) (λ _. first.1) in
    let within : ltb i (length line) ≡ true = grind (arith, nat_tests, first.0.high) in
    sym (ap (λ n. cond (ltb n (length line)) (Some n) None) at ∙ ap (λ t. cond t (Some i) None) within)

-- a line has a word, maybe an empty one
pub words_some : (line : List ℕ) → 0 < length (words line)
words_some line = by (cases_lt (front line) (length line))
  where
    by : (front line < length line) ⊎ (length line ≤ front line) → 0 < length (words line)
    by (inl within) = omega (arith, ap length (words-front line within))
    by (inr out) = omega (arith, ap length (words-whole line out))

-- two words, where something stands behind the first
pub two_words : (more : Option (Bor (List ℕ))) (line word : List ℕ) → is_some more ≡ true → words line ≡ word ∷ words_behind (option_copied more)
    → 1 < length (words line)
two_words None line word some e = cc some
two_words (Some m) line word some e = let h = words_some m.now in omega (arith, ap length e)

-- each word has at most so many bytes
Within : ℕ → List (List ℕ) → Type 0
Within n [] = ⊤
Within n (w ∷ ws) = (length w ≤ n) × Within n ws

within_more : (n : ℕ) (ws : List (List ℕ)) → Within n ws → Within (suc n) ws
unfolding Within
within_more n [] h = tt
within_more n (w ∷ ws) h = (omega (arith, h.0), within_more n ws h.1)

within_step : (space : Bool) (b n : ℕ) (ws : List (List ℕ)) → Within n ws → Within (suc n) (before space b ws)
unfolding Within
within_step true b n ws h = (omega arith, within_more n ws h)
within_step false b n [] h = (omega arith, tt)
within_step false b n (w ∷ ws) h = (omega (arith, h.0), within_more n ws h.1)

words_within : (line : List ℕ) → Within (length line) (words line)
unfolding words Within
words_within [] = (omega arith, tt)
words_within (b ∷ bytes) = within_step (b == 32) b (length bytes) (words bytes) (words_within bytes)

-- the third of the words behind a first one is shorter than what stands there
pub third_within : (rest : Option (List ℕ)) (a b c : List ℕ) → words_behind rest ≡ a ∷ b ∷ c ∷ [] → length c < length (behind rest)
unfolding Within
third_within None a b c e = cc
third_within (Some line) a b c e = let h = subst (Within (length line)) e (words_within line) in omega (arith, h.1.1.0)
