use Rattle.std.proofs.Common.{sym, ap, ◌∙◌, ◌++◌}
use Rattle.std.specs.List.{join_with_byte}
use Rattle.sm_script.specs.Pieces.{led}
use Rattle.sm_script.proofs.PieceLaws.{Writes-after, Writes-cut, Writes-same, joined_led}
use Rattle.sm_script.proofs.pieces.write_joined.Goals as goal

pub returns-in_err-write_all : goal.returns-in_err-write_all
returns-in_err-write_all g c =
    let e = c.in_err-write_all.ensures in
    let separator = c.args.separator in
    let rest = c.in-Some.rest.now in
    Writes-same (ap (λ first. first ++ led separator rest) c.bytes.ensures ∙ joined_led separator c.in-Some.first.now rest ∙ ap (join_with_byte separator) (sym c.in-Some.ensures.cases.0))
    (Writes-cut c.bytes.result.now (led separator rest) c.from_residual.ensures.0 e.front e.counts e.cause.0)

pub returns : goal.returns
returns g c =
    let first = c.in_ok-write_all.ensures in
    let separator = c.args.separator in
    let rest = c.in-Some.rest.now in
    Writes-same (ap (λ first. first ++ led separator rest) c.bytes.ensures ∙ joined_led separator c.in-Some.first.now rest ∙ ap (join_with_byte separator) (sym c.in-Some.ensures.cases.0))
    (Writes-after c.bytes.result.now c.write_led.ensures first.adds first.cause.1)
