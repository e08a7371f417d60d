use Rattle.std.proofs.Common.{◌+◌, ◌≤◌, ◌++◌, length, take, drop, ap, arith, ◌∙◌}
use Rattle.std.proofs.lemmas.List.{take_all}
use Rattle.sm_machine.specs.Replies.{hex_text}
use Rattle.sm_script.proofs.HexTexts.{hex_step, hex_around}
use Rattle.sm_script.proofs.PieceLaws.{Writes-none, Writes-after, Writes-cut, Writes-one, Writes-same}
use Rattle.sm_script.proofs.pieces.write_hex.Goals as goal

pub loop-done-init : goal.loop-done-init
unfolding hex_text
loop-done-init g c = Writes-none _ _ tt

pub loop-done-preserved : goal.loop-done-preserved
loop-done-preserved g c =
    let done = c.loop-done.done in
    let bytes = c.args.bytes.now in
    let piece = c.split_at-in-loop-done.ensures in
    let so_far = c.loop-done.invariant in
    let e = c.in_ok-write_all.ensures in
    let word = c.bytes.ensures ∙ c.hex.ensures in
    Writes-same (hex_step bytes done _ _ _ c.split_at.ensures.back piece.front piece.front_len)
    (Writes-after (hex_text (take done bytes)) (Writes-same word (Writes-one c.bytes.result.now e.adds tt e.counts e.cause)) so_far.adds so_far.cause.1)

pub returns-in_err-write_all : goal.returns-in_err-write_all
returns-in_err-write_all g c =
    let done = c.loop-done.done in
    let bytes = c.args.bytes.now in
    let piece = c.split_at-in-loop-done.ensures in
    let so_far = c.loop-done.invariant in
    let e = c.in_err-write_all.ensures in
    let rest = hex_text (drop (done + length c.split_at-in-loop-done.result.0.now) bytes) in
    let word = c.bytes.ensures ∙ c.hex.ensures in
    Writes-same (ap (λ l. hex_text (take done bytes) ++ (l ++ rest)) word ∙ hex_around bytes done _ _ _ c.split_at.ensures.back piece.front piece.front_len)
    (Writes-after (hex_text (take done bytes))
    (Writes-cut c.bytes.result.now rest c.from_residual.ensures.0 e.front e.counts e.cause.0) so_far.adds so_far.cause.1)

pub returns : goal.returns
returns g c =
    let bytes = c.args.bytes.now in
    let all : length bytes ≤ c.loop-done.done = omega arith in
    Writes-same (ap hex_text (take_all c.loop-done.done bytes all)) c.loop-done.invariant
