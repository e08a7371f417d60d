use Rattle.std.proofs.Common.{◌≡◌, ◌+◌, ◌-◌, ◌<◌, ℕ, List, length, take, drop, arith, ap, ◌∙◌, ◌⊎◌, inl, inr}
use Rattle.std.proofs.lemmas.List.{length-take, length-drop}
use Rattle.sm_base.specs.Names.{uuid_text}
use Rattle.sm_base.proofs.TextLemmas.{length-uuid_text, IsUuid-from_read, uuid_read}
use Rattle.sm_base.proofs.texts.uuid_at.Goals as goal

-- where 36 bytes are a UUID's text, there are 36 bytes
room : (bytes u : List ℕ) (at : ℕ) → take 36 (drop at bytes) ≡ uuid_text u → (at + 36 < at) ⊎ (length bytes < at + 36) → ⊥
room bytes u at e out =
    let long = ap length e in
    elim out [
      | inl h ↦ omega arith
      | inr h ↦ omega (arith, long, length-uuid_text u, length-take 36 (drop at bytes), length-drop at bytes)
    ]

pub returns-in_err-get-clause-found : goal.returns-in_err-get-clause-found
returns-in_err-get-clause-found c =
    λ u is e. absurd (room c.args.bytes.now u c.args.at e c.in_err-get.ensures.lookup.0)

pub returns-clause-uuid : goal.returns-clause-uuid
returns-clause-uuid c =
    IsUuid-from_read c.try_parse_ascii.result c.ok.result c.in_ok-get.field-0.now c.try_parse_ascii.ensures.bytes c.ok.ensures.value

pub returns-clause-found : goal.returns-clause-found
returns-clause-found c = λ u is e.
    let size : c.args.at + 36 - c.args.at ≡ 36 = omega arith in
    let part : take (c.args.at + 36 - c.args.at) (drop c.args.at c.args.bytes.now) ≡ uuid_text u =
    ap (λ n. take n (drop c.args.at c.args.bytes.now)) size ∙ e in
    uuid_read c.try_parse_ascii.result c.ok.result c.in_ok-get.field-0.now u is
    (c.in_ok-get.ensures.lookup.0.2 ∙ part) c.try_parse_ascii.ensures.ok c.try_parse_ascii.ensures.bytes c.ok.ensures.value
