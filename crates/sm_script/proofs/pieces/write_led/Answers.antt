use Rattle.std.proofs.Common.{◌+◌, ◌<◌, ◌≤◌, ◌∷◌, length, take, drop, ap, arith}
use Rattle.std.proofs.lemmas.List.{take_all}
use Rattle.sm_script.specs.Pieces.{led}
use Rattle.sm_script.proofs.PieceLaws.{Writes-none, Writes-after, Writes-cut, Writes-same, parts_at, parts_more}
use Rattle.sm_script.proofs.pieces.write_led.Goals as goal

pub loop-word-init : goal.loop-word-init
loop-word-init g c = Writes-none _ _ tt

pub loop-word-preserved : goal.loop-word-preserved
loop-word-preserved g c =
    let i = c.loop-word.word-index in
    let words = c.args.words.now in
    let so_far = c.loop-word.invariant in
    let within : i < length words = omega arith in
    Writes-same (parts_more (λ w. c.args.separator ∷ w) words i c.word-item.result within c.word-item.is)
    (Writes-after (led c.args.separator (take i words)) c.in_ok-write_after.ensures so_far.adds so_far.cause.1)

pub returns-in_err-write_after : goal.returns-in_err-write_after
returns-in_err-write_after g c =
    let i = c.loop-word.word-index in
    let words = c.args.words.now in
    let word = c.word-item.result in
    let so_far = c.loop-word.invariant in
    let e = c.in_err-write_after.ensures in
    let within : i < length words = omega arith in
    Writes-same (parts_at (λ w. c.args.separator ∷ w) words i word within c.word-item.is)
    (Writes-after (led c.args.separator (take i words))
    (Writes-cut (c.args.separator ∷ word) (led c.args.separator (drop (i + 1) words)) c.from_residual.ensures.0 e.front e.counts e.cause.0)
    so_far.adds so_far.cause.1)

pub returns : goal.returns
returns g c =
    let words = c.args.words.now in
    let all : length words ≤ c.loop-word.word-index = omega arith in
    Writes-same (ap (led c.args.separator) (take_all c.loop-word.word-index words all)) c.loop-word.invariant
