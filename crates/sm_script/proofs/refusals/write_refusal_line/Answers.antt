use Rattle.std.proofs.Common.{◌∷◌, []}
use Rattle.sm_script.proofs.PieceLaws.{Writes-after, Writes-cut, Writes-one}
use Rattle.sm_machine.specs.Replies.{by_spaces, refusal_parts}
use Rattle.sm_script.proofs.refusals.write_refusal_line.Goals as goal

pub returns-in_err-write_refusal : goal.returns-in_err-write_refusal
returns-in_err-write_refusal g c =
    let e = c.in_err-write_refusal.ensures in
    Writes-cut (by_spaces (c.args.first.now ∷ refusal_parts c.args.refusal.now)) (10 ∷ []) c.from_residual.ensures.0 e.front e.counts e.cause.0

pub returns : goal.returns
returns g c =
    let e = c.in_ok-write_refusal.ensures in
    let line = c.write_all.ensures in
    Writes-after (by_spaces (c.args.first.now ∷ refusal_parts c.args.refusal.now)) (Writes-one (10 ∷ []) line.adds line.front line.counts line.cause) e.adds e.cause.1
