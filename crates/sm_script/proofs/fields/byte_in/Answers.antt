use Rattle.std.proofs.Common.{◌∙◌}
use Rattle.sm_script.proofs.DigitLaws.{byte_none, byte_other, byte_some}
use Rattle.sm_script.proofs.fields.byte_in.Goals as goal

pub returns-then-word-ne2 : goal.returns-then-word-ne2
returns-then-word-ne2 c = byte_other c.args.word.now c.if-word-ne2.true

pub returns-in_err-decode_pairs : goal.returns-in_err-decode_pairs
returns-in_err-decode_pairs c = c.from_residual.ensures ∙ byte_none c.args.word.now c.if-word-ne2.false c.in_err-decode_pairs.ensures

pub returns : goal.returns
returns c = byte_some c.args.word.now c.decode_pairs.new.bytes c.if-word-ne2.false c.in_ok-decode_pairs.ensures
