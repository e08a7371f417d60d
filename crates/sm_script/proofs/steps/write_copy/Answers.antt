use Rattle.std.proofs.Common.{◌∷◌, [], codes, decimal, ap}
use Rattle.sm_script.proofs.PieceLaws.{Writes-after, Writes-cut, Writes-same, joined_more}
use Rattle.sm_machine.specs.Replies.{by_spaces, worked_on}
use Rattle.sm_script.specs.Pieces.{led}
use Rattle.sm_script.proofs.steps.write_copy.Goals as goal

pub returns-in_err-write_step : goal.returns-in_err-write_step
returns-in_err-write_step g c =
    let on = worked_on c.args.op.now in
    let e = c.in_err-write_step.ensures in
    Writes-same (joined_more 32 (codes "ok") (codes "gc" ∷ codes "copy" ∷ on) (decimal c.args.block ∷ []))
    (Writes-cut (by_spaces (codes "ok" ∷ codes "gc" ∷ codes "copy" ∷ on)) (led 32 (decimal c.args.block ∷ [])) c.from_residual.ensures.0 e.front e.counts e.cause.0)

pub returns : goal.returns
returns g c =
    let on = worked_on c.args.op.now in
    let e = c.in_ok-write_step.ensures in
    Writes-same (joined_more 32 (codes "ok") (codes "gc" ∷ codes "copy" ∷ on) (decimal c.args.block ∷ []))
    (Writes-after (by_spaces (codes "ok" ∷ codes "gc" ∷ codes "copy" ∷ on))
    (Writes-same (ap (λ w. led 32 (w ∷ [])) c.count.ensures) c.write_led.ensures) e.adds e.cause.1)
