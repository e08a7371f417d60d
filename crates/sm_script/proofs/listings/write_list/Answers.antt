use Rattle.std.proofs.Common.{◌≡◌, ◌++◌, ◌∷◌, ◌∙◌, [], codes, decimal, length, map, ap}
use Rattle.sm_script.proofs.PieceLaws.{Writes-after, Writes-cut, Writes-same, joined_more}
use Rattle.sm_machine.specs.Replies.{by_spaces, disk_text, reply_parts}
use Rattle.sm_script.specs.Pieces.{led}
use Rattle.sm_script.proofs.listings.write_list.Goals as goal

pub returns-in_err-write_joined : goal.returns-in_err-write_joined
unfolding reply_parts
returns-in_err-write_joined g c =
    let rows = c.args.disks.now in
    let e = c.in_err-write_joined.ensures in
    let words : c.text.result ∷ c.number-count.result ∷ [] ≡ codes "ok" ∷ decimal (length rows) ∷ [] = cc (c.text.ensures, c.number-count.ensures, c.len.ensures) in
    Writes-same (ap (λ l. by_spaces l ++ led 32 (map disk_text rows)) words ∙ joined_more 32 (codes "ok") (decimal (length rows) ∷ []) (map disk_text rows))
    (Writes-cut (by_spaces (c.text.result ∷ c.number-count.result ∷ [])) (led 32 (map disk_text rows)) c.from_residual.ensures.0 e.front e.counts e.cause.0)

pub returns : goal.returns
unfolding reply_parts
returns g c =
    let rows = c.args.disks.now in
    let e = c.in_ok-write_joined.ensures in
    let words : c.text.result ∷ c.number-count.result ∷ [] ≡ codes "ok" ∷ decimal (length rows) ∷ [] = cc (c.text.ensures, c.number-count.ensures, c.len.ensures) in
    let disks = c.deref.ensures.value ∙ c.disks.view_is in
    Writes-same (ap (λ l. by_spaces l ++ led 32 (map disk_text rows)) words ∙ joined_more 32 (codes "ok") (decimal (length rows) ∷ []) (map disk_text rows))
    (Writes-after (by_spaces (c.text.result ∷ c.number-count.result ∷ []))
    (Writes-same (ap (λ l. led 32 (map disk_text l)) disks) c.write_disks.ensures) e.adds e.cause.1)
