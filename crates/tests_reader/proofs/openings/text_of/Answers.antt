use Rattle.std.proofs.Common.{◌≡◌, ◌+◌, ◌-◌, ◌*◌, ℕ, take, drop, ap, ◌∙◌, arith}
use Rattle.tests_reader.specs.Frames.{places}
use Rattle.tests_reader.proofs.OpeningLaws.{text_there}
use Rattle.vg_layout.specs.Places.{slot_place}
use Rattle.vg_layout.specs.Sectors.{number_at}
use Rattle.tests_reader.proofs.openings.text_of.Goals as goal

pub returns-clause-text : goal.returns-clause-text
returns-clause-text c =
    let f = places c.args.frame.now in
    let begin = 512 * c.slot_begin.result in
    let there : c.slot_begin.result ≡ slot_place f (number_at 8 c.args.header.now) = c.slot_begin.ensures ∙ ap (slot_place f) c.number.ensures in
    ap (λ (size : ℕ). take (begin + size - begin) (drop begin c.args.device.now)) c.number-2.ensures
    ∙ text_there f c.args.device.now c.args.header.now begin (ap (λ (n : ℕ). 512 * n) there) (omega (arith, c.if-device-begin.false))
    (c.is_header_right.ensures.few c.if-not-is_header_right.false)
