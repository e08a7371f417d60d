use Rattle.std.proofs.Common.{◌≡◌, ◌++◌, ◌∷◌, ◌∙◌, [], codes, decimal, length, map, ap}
use Rattle.sm_machine.specs.Replies.{by_spaces, image_text, op_text, reply_parts, stat_parts}
use Rattle.sm_machine.specs.Stats.{Stats}
use Rattle.sm_machine.specs.declared.replies.Reply.TheVariants as reply
use Rattle.sm_script.specs.Pieces.{led}
use Rattle.sm_script.proofs.PieceLaws.{Writes-after, Writes-cut, Writes-same}
use Rattle.sm_script.proofs.StatTexts.{stat_text}
use Rattle.sm_script.proofs.listings.write_stat.Goals as goal

pub returns-in_err-write_joined : goal.returns-in_err-write_joined
unfolding reply_parts stat_parts
returns-in_err-write_joined g c =
    let s = c.stat.inside in
    let images = map image_text s.rows.items in
    let front = c.text.result ∷ c.text-2.result ∷ c.number.result ∷ c.text-3.result ∷ c.count.result ∷ c.text-4.result ∷ [] in
    let words : front ≡ codes "ok" ∷ codes "seq" ∷ decimal s.seq ∷ codes "free" ∷ decimal s.free ∷ codes "op " ∷ [] =
    cc (c.text.ensures, c.text-2.ensures, c.number.ensures, c.text-3.ensures, c.count.ensures, c.text-4.ensures) in
    let whole = stat_text (decimal s.seq) (decimal s.free) (op_text s.op) (decimal (length s.rows.items)) images
    ∙ ap (λ (v : Stats). by_spaces (reply_parts (reply.Stat v))) c.stat.view_is in
    let e = c.in_err-write_joined.ensures in
    let rest = op_text s.op ++ (led 32 (codes "images" ∷ decimal (length s.rows.items) ∷ []) ++ led 32 images) in
    Writes-same (ap (λ l. by_spaces l ++ rest) words ∙ whole)
    (Writes-cut (by_spaces front) rest c.from_residual.ensures.0 e.front e.counts e.cause.0)

pub returns-in_err-write_op : goal.returns-in_err-write_op
unfolding reply_parts stat_parts
returns-in_err-write_op g c =
    let s = c.stat.inside in
    let images = map image_text s.rows.items in
    let front = c.text.result ∷ c.text-2.result ∷ c.number.result ∷ c.text-3.result ∷ c.count.result ∷ c.text-4.result ∷ [] in
    let words : front ≡ codes "ok" ∷ codes "seq" ∷ decimal s.seq ∷ codes "free" ∷ decimal s.free ∷ codes "op " ∷ [] =
    cc (c.text.ensures, c.text-2.ensures, c.number.ensures, c.text-3.ensures, c.count.ensures, c.text-4.ensures) in
    let whole = stat_text (decimal s.seq) (decimal s.free) (op_text s.op) (decimal (length s.rows.items)) images
    ∙ ap (λ (v : Stats). by_spaces (reply_parts (reply.Stat v))) c.stat.view_is in
    let j = c.in_ok-write_joined.ensures in
    let e = c.in_err-write_op.ensures in
    let rest = (led 32 (codes "images" ∷ decimal (length s.rows.items) ∷ []) ++ led 32 images) in
    Writes-same (ap (λ l. by_spaces l ++ (op_text s.op ++ rest)) words ∙ whole)
    (Writes-after (by_spaces front)
    (Writes-cut (op_text s.op) rest c.from_residual-in_err-write_op.ensures.0 e.front e.counts e.cause.0) j.adds j.cause.1)

pub returns-in_err-write_led : goal.returns-in_err-write_led
unfolding reply_parts stat_parts
returns-in_err-write_led g c =
    let s = c.stat.inside in
    let images = map image_text s.rows.items in
    let front = c.text.result ∷ c.text-2.result ∷ c.number.result ∷ c.text-3.result ∷ c.count.result ∷ c.text-4.result ∷ [] in
    let words : front ≡ codes "ok" ∷ codes "seq" ∷ decimal s.seq ∷ codes "free" ∷ decimal s.free ∷ codes "op " ∷ [] =
    cc (c.text.ensures, c.text-2.ensures, c.number.ensures, c.text-3.ensures, c.count.ensures, c.text-4.ensures) in
    let whole = stat_text (decimal s.seq) (decimal s.free) (op_text s.op) (decimal (length s.rows.items)) images
    ∙ ap (λ (v : Stats). by_spaces (reply_parts (reply.Stat v))) c.stat.view_is in
    let more = c.text-5.result ∷ c.number-count.result ∷ [] in
    let images_words : more ≡ codes "images" ∷ decimal (length s.rows.items) ∷ [] = cc (c.text-5.ensures, c.number-count.ensures, c.len.ensures) in
    let j = c.in_ok-write_joined.ensures in
    let o = c.in_ok-write_op.ensures in
    let e = c.in_err-write_led.ensures in
    Writes-same (ap (λ l. by_spaces front ++ (op_text s.op ++ (led 32 l ++ led 32 images))) images_words
    ∙ ap (λ l. by_spaces l ++ (op_text s.op ++ (led 32 (codes "images" ∷ decimal (length s.rows.items) ∷ []) ++ led 32 images))) words ∙ whole)
    (Writes-after (by_spaces front)
    (Writes-after (op_text s.op)
    (Writes-cut (led 32 more) (led 32 images) c.from_residual-in_err-write_led.ensures.0 e.front e.counts e.cause.0) o.adds o.cause.1) j.adds j.cause.1)

pub returns : goal.returns
unfolding reply_parts stat_parts
returns g c =
    let s = c.stat.inside in
    let images = map image_text s.rows.items in
    let front = c.text.result ∷ c.text-2.result ∷ c.number.result ∷ c.text-3.result ∷ c.count.result ∷ c.text-4.result ∷ [] in
    let words : front ≡ codes "ok" ∷ codes "seq" ∷ decimal s.seq ∷ codes "free" ∷ decimal s.free ∷ codes "op " ∷ [] =
    cc (c.text.ensures, c.text-2.ensures, c.number.ensures, c.text-3.ensures, c.count.ensures, c.text-4.ensures) in
    let whole = stat_text (decimal s.seq) (decimal s.free) (op_text s.op) (decimal (length s.rows.items)) images
    ∙ ap (λ (v : Stats). by_spaces (reply_parts (reply.Stat v))) c.stat.view_is in
    let more = c.text-5.result ∷ c.number-count.result ∷ [] in
    let images_words : more ≡ codes "images" ∷ decimal (length s.rows.items) ∷ [] = cc (c.text-5.ensures, c.number-count.ensures, c.len.ensures) in
    let j = c.in_ok-write_joined.ensures in
    let o = c.in_ok-write_op.ensures in
    let l = c.in_ok-write_led.ensures in
    let rows = Writes-same (ap (λ l. led 32 (map image_text l)) c.deref.ensures.value) c.write_images.ensures in
    Writes-same (ap (λ l. by_spaces front ++ (op_text s.op ++ (led 32 l ++ led 32 images))) images_words
    ∙ ap (λ l. by_spaces l ++ (op_text s.op ++ (led 32 (codes "images" ∷ decimal (length s.rows.items) ∷ []) ++ led 32 images))) words ∙ whole)
    (Writes-after (by_spaces front)
    (Writes-after (op_text s.op)
    (Writes-after (led 32 more) rows l.adds l.cause.1) o.adds o.cause.1) j.adds j.cause.1)
