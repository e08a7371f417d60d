use Rattle.std.proofs.Common.{◌∷◌, []}
use Rattle.sm_script.proofs.PieceLaws.{Writes-after, Writes-cut, Writes-one}
use Rattle.sm_machine.specs.Replies.{by_spaces}
use Rattle.sm_script.proofs.pieces.write_line.Goals as goal

pub returns-in_err-write_joined : goal.returns-in_err-write_joined
returns-in_err-write_joined g c =
    let e = c.in_err-write_joined.ensures in
    Writes-cut (by_spaces c.args.words.now) (10 ∷ []) c.from_residual.ensures.0 e.front e.counts e.cause.0

pub returns : goal.returns
returns g c =
    let e = c.in_ok-write_joined.ensures in
    let line = c.write_all.ensures in
    Writes-after (by_spaces c.args.words.now) (Writes-one (10 ∷ []) line.adds line.front line.counts line.cause) e.adds e.cause.1
