use Rattle.std.proofs.Common.{◌≡◌, ◌∷◌, [], decimal, ap}
use Rattle.sm_script.proofs.PieceLaws.{Writes-after, Writes-cut, Writes-same}
use Rattle.sm_machine.specs.Replies.{by_commas, image_text, name_or_dash, visibility}
use Rattle.sm_base.specs.Names.{spelling}
use Rattle.sm_script.proofs.listings.write_image.Goals as goal

pub returns-in_err-write_all : goal.returns-in_err-write_all
returns-in_err-write_all g c =
    let e = c.in_err-write_all.ensures in
    Writes-cut (32 ∷ []) (image_text c.args.image.now) c.from_residual.ensures.0 e.front e.counts e.cause.0

pub returns : goal.returns
unfolding image_text
returns g c =
    let r = c.args.image.now in
    let e = c.in_ok-write_all.ensures in
    let words : c.name.result ∷ c.visibility.result ∷ c.name_or_dash.result ∷ c.number.result ∷ c.count.result ∷ c.count-2.result ∷ c.count-3.result ∷ []
    ≡ spelling r.name ∷ visibility r.hidden ∷ name_or_dash r.parent ∷ decimal r.size ∷ decimal r.blocks ∷ decimal r.extents ∷ decimal r.refs ∷ [] =
    cc (c.name.ensures, c.visibility.ensures, c.name_or_dash.ensures, c.number.ensures, c.count.ensures, c.count-2.ensures, c.count-3.ensures) in
    Writes-after (32 ∷ []) (Writes-same (ap by_commas words) c.write_joined.ensures) e.adds e.cause.1
