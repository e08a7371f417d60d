-- How a label is kept: its text in front of zeros.
use Rattle.std.specs.Prelude.{◌≡◌, ℕ, ◌-◌, List, ◌++◌, take, length, replicate, IsTrue}
use Rattle.std.proofs.Common.{ap₂, ap, ◌∙◌}
use Rattle.sm_base.specs.Labels.{is_label}
use Rattle.sm_base.specs.declared.labels.Label.TheInside.{Inside}

-- the text
abbrev pub text_of : Inside → List ℕ
text_of a = take a.length a.bytes

-- the text is a label, and zeros follow it up to 64 bytes
pub record IsPadded (a : Inside) : Type 0 where
  pub label : IsTrue (is_label (text_of a))
  pub long : length (text_of a) ≡ a.length
  pub filled : text_of a ++ replicate (64 - a.length) 0 ≡ a.bytes

-- a text as it is padded
abbrev pub padded : List ℕ → Inside
padded text = record { length = length text; bytes = text ++ replicate (64 - length text) 0 }

pub padded_text : (a : Inside) → IsPadded a → padded (text_of a) ≡ a
padded_text a h = ap₂ (λ (n : ℕ) (bytes : List ℕ). let r : Inside = record { length = n; bytes = bytes } in r) h.long
    (ap (λ (n : ℕ). text_of a ++ replicate (64 - n) 0) h.long ∙ h.filled)
