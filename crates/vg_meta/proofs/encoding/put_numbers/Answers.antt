use Rattle.std.proofs.Common.{get_or, subst, List, ℕ, arith}
use Rattle.std.proofs.lemmas.List.{get_or_default}
use Rattle.byteorder.specs.Endian.{big_bytes}
use Rattle.vg_meta.specs.Writing.{WritesText}
use Rattle.vg_meta.proofs.WriteLaws.{puts_none, puts_more, room_more, whole_text}
use Rattle.vg_meta.proofs.encoding.put_numbers.Goals as goal

pub loop-number-init : goal.loop-number-init
loop-number-init c = puts_none c.args.at c.args.to.now

pub put_number-end-requires : goal.put_number-end-requires
put_number-end-requires c =
    let ns = c.args.numbers.now in
    let i = c.loop-number.number-index in
    let n = get_or ns i 0 in
    omega (
      arith,
      c.loop-number.invariant.behind,
      room_more (big_bytes 4) ns i n c.loop-number-test.true (get_or_default ns i 0 n c.loop-number-test.true),
      c.requires,
    )

pub loop-number-preserved : goal.loop-number-preserved
loop-number-preserved c =
    let ns = c.args.numbers.now in
    let i = c.loop-number.number-index in
    let n = get_or ns i 0 in
    puts_more (big_bytes 4) ns i n c.args.at _ _ _ _ _
    c.loop-number-test.true (get_or_default ns i 0 n c.loop-number-test.true) (omega (arith, c.requires)) c.loop-number.invariant c.put_number-end.ensures

pub returns : goal.returns
returns c =
    subst (λ (t : List ℕ). WritesText c.args.at t c.args.to.now c.loop-number.to c.loop-number.end)
    (whole_text (big_bytes 4) c.args.numbers.now c.loop-number.number-index c.loop-number-test.false)
    c.loop-number.invariant
