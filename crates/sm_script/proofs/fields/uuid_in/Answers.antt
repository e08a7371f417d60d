use Rattle.std.proofs.Common.{◌∙◌}
use Rattle.sm_script.proofs.FieldLaws.{uuid_none, uuid_read, uuid_some}
use Rattle.sm_script.proofs.fields.uuid_in.Goals as goal

pub returns-then-word-ne36 : goal.returns-then-word-ne36
returns-then-word-ne36 c = uuid_none c.args.word.now c.if-word-ne36.true

pub returns : goal.returns
returns c =
    c.ok.ensures.value ∙ uuid_read c.try_parse_ascii.result c.args.word.now c.try_parse_ascii.ensures.ok c.try_parse_ascii.ensures.bytes
    ∙ uuid_some c.args.word.now c.if-word-ne36.false
