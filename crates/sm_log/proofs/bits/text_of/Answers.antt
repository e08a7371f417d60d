use Rattle.std.proofs.Common.{◌≡◌, ◌∙◌, sym, ap, take, arith}
use Rattle.sm_log.specs.Coded.{packed, base64}
use Rattle.sm_log.proofs.ByteLaws.{packed-is}
use Rattle.sm_log.proofs.CodeLaws.{base64_is}
use Rattle.sm_log.proofs.bits.text_of.Goals as goal

pub returns-in-Ok : goal.returns-in-Ok
returns-in-Ok c = λ flags agree.
    let s = c.args.bytes.now in
    let is : packed c.args.count flags ≡ take c.args.count s = packed-is c.args.count 0 flags s agree (λ i. omega (arith, c.type_inv.bytes i)) (omega arith) in
    c.in-Ok.ensures.text ∙ sym (base64_is (take c.args.count s)) ∙ ap base64 (sym is)
