use Rattle.std.proofs.Common.{◌∷◌, []}
use Rattle.sm_script.proofs.PieceLaws.{Writes-after, Writes-cut, Writes-one, Writes-same}
use Rattle.sm_script.proofs.pieces.write_after.Goals as goal

pub returns-in_err-write_all : goal.returns-in_err-write_all
returns-in_err-write_all g c =
    let e = c.in_err-write_all.ensures in
    Writes-cut (c.args.separator ∷ []) c.args.word.now c.from_residual.ensures.0 e.front e.counts e.cause.0

pub returns : goal.returns
returns g c =
    let first = c.in_ok-write_all.ensures in
    let word = c.write_all-2.ensures in
    Writes-after (c.args.separator ∷ []) (Writes-same c.bytes.ensures (Writes-one c.bytes.result.now word.adds word.front word.counts word.cause)) first.adds first.cause.1
