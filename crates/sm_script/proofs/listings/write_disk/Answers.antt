use Rattle.std.proofs.Common.{◌≡◌, ◌∷◌, [], decimal, ap}
use Rattle.sm_script.proofs.PieceLaws.{Writes-after, Writes-cut, Writes-same}
use Rattle.sm_machine.specs.Replies.{access, by_commas, disk_text, uuid_or_dash}
use Rattle.sm_base.specs.Names.{uuid_text}
use Rattle.sm_script.proofs.listings.write_disk.Goals as goal

pub returns-in_err-write_all : goal.returns-in_err-write_all
returns-in_err-write_all g c =
    let e = c.in_err-write_all.ensures in
    Writes-cut (32 ∷ []) (disk_text c.args.disk.now) c.from_residual.ensures.0 e.front e.counts e.cause.0

pub returns : goal.returns
unfolding disk_text
returns g c =
    let d = c.args.disk.now in
    let e = c.in_ok-write_all.ensures in
    let words : c.uuid.result ∷ c.number.result ∷ c.access.result ∷ c.uuid_or_dash.result ∷ c.text-2.result ∷ []
    ≡ uuid_text d.uuid ∷ decimal d.size ∷ access d.read_only ∷ uuid_or_dash d.origin ∷ d.label ∷ [] =
    cc (c.uuid.ensures, c.number.ensures, c.access.ensures, c.uuid_or_dash.ensures, c.text-2.ensures, c.text.ensures.text) in
    Writes-after (32 ∷ []) (Writes-same (ap by_commas words) c.write_joined.ensures) e.adds e.cause.1
