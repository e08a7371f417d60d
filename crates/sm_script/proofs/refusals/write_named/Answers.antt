use Rattle.std.proofs.Common.{◌≡◌, ◌++◌, ◌∷◌, ◌∙◌, [], ap}
use Rattle.sm_script.proofs.PieceLaws.{Writes-after, Writes-cut, Writes-same, joined_more}
use Rattle.sm_machine.specs.Replies.{by_spaces}
use Rattle.sm_script.specs.Pieces.{led}
use Rattle.sm_script.proofs.refusals.write_named.Goals as goal

pub returns-in_err-write_joined : goal.returns-in_err-write_joined
returns-in_err-write_joined g c =
    let more = c.args.more.now in
    let e = c.in_err-write_joined.ensures in
    let words : c.text.result ∷ c.text-2.result ∷ [] ≡ c.args.first.now ∷ c.args.name.now ∷ [] = cc (c.text.ensures, c.text-2.ensures) in
    Writes-same (ap (λ l. by_spaces l ++ led 32 more) words ∙ joined_more 32 (c.args.first.now) (c.args.name.now ∷ []) more)
    (Writes-cut (by_spaces (c.text.result ∷ c.text-2.result ∷ [])) (led 32 more) c.from_residual.ensures.0 e.front e.counts e.cause.0)

pub returns : goal.returns
returns g c =
    let more = c.args.more.now in
    let e = c.in_ok-write_joined.ensures in
    let words : c.text.result ∷ c.text-2.result ∷ [] ≡ c.args.first.now ∷ c.args.name.now ∷ [] = cc (c.text.ensures, c.text-2.ensures) in
    Writes-same (ap (λ l. by_spaces l ++ led 32 more) words ∙ joined_more 32 (c.args.first.now) (c.args.name.now ∷ []) more)
    (Writes-after (by_spaces (c.text.result ∷ c.text-2.result ∷ [])) c.write_led.ensures e.adds e.cause.1)
