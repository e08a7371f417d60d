use Rattle.std.proofs.Common.{◌≡◌, ◌∷◌, ◌∙◌, [], codes, decimal, ap, sym}
use Rattle.sm_script.proofs.PieceLaws.{Writes-same}
use Rattle.sm_machine.specs.Replies.{by_spaces, reply_parts}
use Rattle.sm_script.proofs.printing.write_parts.Goals as goal

pub returns-in-Done : goal.returns-in-Done
unfolding reply_parts
returns-in-Done g c =
    let words : c.text.result ∷ [] ≡ codes "ok" ∷ [] = cc (c.text.ensures) in
    Writes-same (ap by_spaces (words ∙ ap reply_parts (sym c.in-Done.is))) c.write_joined.ensures

pub returns-in-Size : goal.returns-in-Size
unfolding reply_parts
returns-in-Size g c =
    let words : c.text-in-Size.result ∷ c.number.result ∷ [] ≡ codes "ok" ∷ decimal c.in-Size.size ∷ [] = cc (c.text-in-Size.ensures, c.number.ensures) in
    Writes-same (ap by_spaces (words ∙ ap reply_parts (sym c.in-Size.is))) c.write_joined-in-Size.ensures

pub returns-in-Bytes : goal.returns-in-Bytes
returns-in-Bytes g c = Writes-same (ap (λ r. by_spaces (reply_parts r)) (sym c.in-Bytes.is)) c.write_bytes.ensures

pub returns-in-List : goal.returns-in-List
returns-in-List g c = Writes-same (ap (λ r. by_spaces (reply_parts r)) (sym c.in-List.is)) c.write_list.ensures

pub returns-in-Stat : goal.returns-in-Stat
returns-in-Stat g c = Writes-same (ap (λ r. by_spaces (reply_parts r)) (sym c.in-Stat.is)) c.write_stat.ensures

pub returns-in-Changed : goal.returns-in-Changed
returns-in-Changed g c = Writes-same (ap (λ r. by_spaces (reply_parts r)) (sym c.in-Changed.is)) c.write_changed.ensures

pub returns-in-Gc : goal.returns-in-Gc
returns-in-Gc g c = Writes-same (ap (λ r. by_spaces (reply_parts r)) (sym c.in-Gc.is)) c.write_plan.ensures

pub returns-in-No : goal.returns-in-No
unfolding reply_parts
returns-in-No g c = Writes-same (ap (λ r. by_spaces (reply_parts r)) (sym c.in-No.is)) c.write_refusal.ensures
