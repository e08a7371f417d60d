use Rattle.std.proofs.Common.{◌≡◌, ◌∷◌, ◌∙◌, [], codes, decimal, ap, sym}
use Rattle.sm_script.proofs.PieceLaws.{Writes-after, Writes-cut, Writes-same, joined_more}
use Rattle.sm_machine.specs.Replies.{by_commas, op_text}
use Rattle.sm_base.specs.Names.{spelling}
use Rattle.sm_script.specs.Pieces.{led}
use Rattle.sm_script.proofs.listings.write_op.Goals as goal

pub returns-in-Idle : goal.returns-in-Idle
unfolding op_text
returns-in-Idle g c =
    let k = c.in-Idle in
    let words : c.text.result ∷ [] ≡ codes "none" ∷ [] = cc (c.text.ensures) in
    Writes-same (ap by_commas words ∙ ap op_text (sym k.is)) c.write_joined.ensures

pub returns-in-Copy : goal.returns-in-Copy
unfolding op_text
returns-in-Copy g c = Writes-same (ap op_text (sym c.in-Copy.is)) c.write_copying.ensures

pub returns-in-Relink : goal.returns-in-Relink
unfolding op_text
returns-in-Relink g c =
    let k = c.in-Relink in
    let words : c.text-in-Relink.result ∷ c.name.result ∷ c.name-in-Relink.result ∷ [] ≡ codes "relink" ∷ spelling k.child ∷ spelling k.parent ∷ [] = cc (c.text-in-Relink.ensures, c.name.ensures, c.name-in-Relink.ensures) in
    Writes-same (ap by_commas words ∙ ap op_text (sym k.is)) c.write_joined-in-Relink.ensures

pub returns-in-Leaf : goal.returns-in-Leaf
unfolding op_text
returns-in-Leaf g c = Writes-same (ap op_text (sym c.in-Leaf.is)) c.write_copying-in-Leaf.ensures

pub returns-in_err-write_copying-in-Live : goal.returns-in_err-write_copying-in-Live
unfolding op_text
returns-in_err-write_copying-in-Live g c =
    let k = c.in-Live in
    let e = c.in_err-write_copying-in-Live.ensures in
    let front = spelling k.leaf ∷ spelling k.parent ∷ decimal k.cursor ∷ [] in
    Writes-same (joined_more 44 (codes "live") front (decimal k.dirty ∷ []) ∙ ap op_text (sym k.is))
    (Writes-cut (by_commas (codes "live" ∷ front)) (led 44 (decimal k.dirty ∷ [])) c.from_residual.ensures.0 e.front e.counts e.cause.0)

pub returns-in_ok-write_copying-in-Live : goal.returns-in_ok-write_copying-in-Live
unfolding op_text
returns-in_ok-write_copying-in-Live g c =
    let k = c.in-Live in
    let e = c.in_ok-write_copying-in-Live.ensures in
    let front = spelling k.leaf ∷ spelling k.parent ∷ decimal k.cursor ∷ [] in
    Writes-same (joined_more 44 (codes "live") front (decimal k.dirty ∷ []) ∙ ap op_text (sym k.is))
    (Writes-after (by_commas (codes "live" ∷ front)) (Writes-same (ap (λ w. led 44 (w ∷ [])) c.count.ensures) c.write_led.ensures) e.adds e.cause.1)
