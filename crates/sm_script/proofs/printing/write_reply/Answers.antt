use Rattle.std.proofs.Common.{◌∷◌, []}
use Rattle.sm_script.proofs.PieceLaws.{Writes-after, Writes-cut, Writes-one}
use Rattle.sm_machine.specs.Replies.{by_spaces, printed, reply_parts}
use Rattle.sm_script.proofs.printing.write_reply.Goals as goal

pub returns-in_err-write_parts : goal.returns-in_err-write_parts
unfolding printed
returns-in_err-write_parts g c =
    let e = c.in_err-write_parts.ensures in
    Writes-cut (by_spaces (reply_parts c.args.reply.now)) (10 ∷ []) c.from_residual.ensures.0 e.front e.counts e.cause.0

pub returns : goal.returns
unfolding printed
returns g c =
    let e = c.in_ok-write_parts.ensures in
    let line = c.write_all.ensures in
    Writes-after (by_spaces (reply_parts c.args.reply.now)) (Writes-one (10 ∷ []) line.adds line.front line.counts line.cause) e.adds e.cause.1
