use Rattle.std.proofs.Common.{◌≡◌, ◌<◌, ◌^◌, ℕ, List, length, drop, decimal, arith, ap, sym, subst, ◌∙◌, ◌⊎◌, inl, inr, Some, None, Result, Ok, Err, MatchResult, Bor}
use Rattle.std.proofs.lemmas.List.{length-drop, take_rest}
use Rattle.std.proofs.lemmas.Fmt.{parse-decimal, decimal_nonempty, IsAscii-decimal}
use Rattle.std.proofs.lemmas.Str.{IsUtf8-from_ascii}
use Rattle.std.specs.Result.{result_ok}
use Rattle.std.specs.Str.{IsUtf8}
use Rattle.sm_base.proofs.texts.decimal_at.Goals as goal

-- where a decimal number stands there is text
room : (bytes : List ℕ) (at n : ℕ) → n < 2 ^ 32 → drop at bytes ≡ decimal n → (length bytes < at) ⊎ (length bytes < length bytes) → ⊥
room bytes at n fits e out =
    elim out [
      | inl h ↦ omega (arith, ap length e, length-drop at bytes, decimal_nonempty n (omega arith))
      | inr h ↦ omega arith
    ]

pub returns-in_err-get-clause-found : goal.returns-in_err-get-clause-found
returns-in_err-get-clause-found c =
    λ n fits e. absurd (room c.args.bytes.now c.args.at n fits e c.in_err-get.ensures.lookup.0)

-- the bytes of a decimal number are text
is_text : {E : Type 0} (r : Result (Bor (List ℕ)) E) (part : List ℕ) (Q : E → Type 0) (n : ℕ) → n < 2 ^ 32 → part ≡ decimal n
    → MatchResult r (λ s. (s.now ≡ part) × IsUtf8 part) (λ e. ¬ (IsUtf8 part) × Q e) → None ≡ result_ok r → ⊥
is_text (Ok s) part Q n fits same told out = cc
is_text (Err x) part Q n fits same told out =
    told.0 (subst IsUtf8 (sym same) (IsUtf8-from_ascii (decimal n) (IsAscii-decimal n (omega arith))))

-- the text has those bytes
same_text : {E : Type 0} (r : Result (Bor (List ℕ)) E) (part : List ℕ) (Q : E → Type 0) (text : Bor (List ℕ))
    → MatchResult r (λ s. (s.now ≡ part) × IsUtf8 part) (λ e. ¬ (IsUtf8 part) × Q e) → Some text ≡ result_ok r → text.now ≡ part
same_text (Ok s) part Q text told out = let same : text ≡ s = cc in ap (λ (x : Bor (List ℕ)). x.now) same ∙ told.0
same_text (Err x) part Q text told out = cc

pub returns-in_err-ok-clause-found : goal.returns-in_err-ok-clause-found
returns-in_err-ok-clause-found c = λ n fits e.
    let part = c.in_ok-get.ensures.lookup.0.2 ∙ take_rest c.args.bytes.now c.args.at ∙ e in
    absurd (is_text c.from_utf8.result c.in_ok-get.field-0.now _ n fits part c.from_utf8.ensures.cases c.in_err-ok.ensures.value)

pub returns-clause-found : goal.returns-clause-found
returns-clause-found c = λ n fits e.
    let part = c.in_ok-get.ensures.lookup.0.2 ∙ take_rest c.args.bytes.now c.args.at ∙ e in
    let text = same_text c.from_utf8.result c.in_ok-get.field-0.now _ c.in_ok-ok.field-0 c.from_utf8.ensures.cases c.in_ok-ok.ensures.value in
    let number = parse-decimal 32 n c.in_ok-ok.field-0.now c.parse.result fits (omega arith) (text ∙ part) c.parse.ensures.value.0 in
    c.ok-2.ensures.value ∙ ap result_ok number
