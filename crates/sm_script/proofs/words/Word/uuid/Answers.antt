use Rattle.std.proofs.Common.{ap, ◌∙◌}
use Rattle.uuid.specs.Text.{hyphenated_text, lower}
use Rattle.sm_base.specs.Names.{uuid_text}
use Rattle.sm_script.proofs.words.Word.uuid.Goals as goal

pub returns : goal.returns
unfolding uuid_text
returns c =
    c.text.ensures ∙ c.as_bytes.ensures.value ∙ c.encode_lower-text.ensures.text ∙ ap (hyphenated_text lower) c.hyphenated.ensures
