use Rattle.std.proofs.Common.{arith}
use Rattle.sm_script.proofs.HexTexts.{hex_word}
use Rattle.sm_script.proofs.words.Word.hex.Goals as goal

pub returns : goal.returns
returns c =
    hex_word c.encode_to_slice.result c.unwrap.result c.args.bytes.now c.encode_to_slice.new.output _ (λ k. omega (arith, c.type_inv.bytes k))
    c.unwrap.ensures c.encode_to_slice.ensures.written
