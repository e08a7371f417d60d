use Rattle.std.proofs.Common.{◌∙◌, codes}
use Rattle.sm_script.proofs.PieceLaws.{Writes-after, Writes-cut, Writes-one, Writes-same}
use Rattle.sm_machine.specs.Replies.{reply_parts}
use Rattle.sm_script.proofs.printing.write_changed.Goals as goal

pub returns-in_err-write_all : goal.returns-in_err-write_all
unfolding reply_parts
returns-in_err-write_all g c =
    let e = c.in_err-write_all.ensures in
    Writes-cut (codes "ok ") c.args.text.now c.from_residual.ensures.0 e.front e.counts e.cause.0

pub returns : goal.returns
unfolding reply_parts
returns g c =
    let e = c.in_ok-write_all.ensures in
    let text = c.deref.ensures.value ∙ c.text.view_is in
    let more = c.write_all-2.ensures in
    Writes-after (codes "ok ") (Writes-same text (Writes-one c.deref.result.now more.adds more.front more.counts more.cause)) e.adds e.cause.1
