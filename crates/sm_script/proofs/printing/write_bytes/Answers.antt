use Rattle.std.proofs.Common.{◌∙◌, codes, ap}
use Rattle.sm_script.proofs.PieceLaws.{Writes-after, Writes-cut, Writes-same}
use Rattle.sm_machine.specs.Replies.{hex_text, reply_parts}
use Rattle.sm_script.proofs.printing.write_bytes.Goals as goal

pub returns-in_err-write_all : goal.returns-in_err-write_all
unfolding reply_parts
returns-in_err-write_all g c =
    let e = c.in_err-write_all.ensures in
    Writes-cut (codes "ok ") (hex_text c.args.bytes.now) c.from_residual.ensures.0 e.front e.counts e.cause.0

pub returns : goal.returns
unfolding reply_parts
returns g c =
    let e = c.in_ok-write_all.ensures in
    let bytes = c.deref.ensures.value ∙ c.bytes.view_is in
    Writes-after (codes "ok ") (Writes-same (ap hex_text bytes) c.write_hex.ensures) e.adds e.cause.1
