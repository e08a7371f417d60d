use Rattle.std.proofs.Common.{◌≡◌, ◌≤◌, length, arith, ap, ◌∙◌}
use Rattle.uuid.specs.Text.{hyphenated_text, lower}
use Rattle.sm_base.specs.Names.{uuid_text}
use Rattle.sm_base.proofs.TextLemmas.{length-uuid_text, placed-placed}
use Rattle.sm_base.proofs.texts.put_uuid.Goals as goal

pub put-requires : goal.put-requires
unfolding uuid_text
put-requires c =
    let text : c.as_bytes.result.now ≡ uuid_text c.args.uuid.now =
    c.as_bytes.ensures.value ∙ c.encode_lower-text.ensures.text ∙ ap (hyphenated_text lower) c.hyphenated.ensures in
    omega (arith, ap length text, length-uuid_text c.args.uuid.now)

pub returns-clause-written : goal.returns-clause-written
unfolding uuid_text
returns-clause-written c =
    let text : c.as_bytes.result.now ≡ uuid_text c.args.uuid.now =
    c.as_bytes.ensures.value ∙ c.encode_lower-text.ensures.text ∙ ap (hyphenated_text lower) c.hyphenated.ensures in
    let within : c.args.at ≤ length c.args.to.now = omega arith in
    let both = placed-placed c.args.at c.args.front.now (uuid_text c.args.uuid.now) c.args.to.now within in
    rw (c.put.ensures.written, text, c.put-middle.ensures.end, c.put-middle.ensures.written) both

pub returns-clause-end : goal.returns-clause-end
unfolding uuid_text
returns-clause-end c =
    let text : c.as_bytes.result.now ≡ uuid_text c.args.uuid.now =
    c.as_bytes.ensures.value ∙ c.encode_lower-text.ensures.text ∙ ap (hyphenated_text lower) c.hyphenated.ensures in
    omega (arith, ap length text, length-uuid_text c.args.uuid.now)
