use Rattle.std.proofs.Common.{◌≡◌, ◌∷◌, [], decimal, ap}
use Rattle.sm_script.proofs.PieceLaws.{Writes-same}
use Rattle.sm_machine.specs.Replies.{by_commas}
use Rattle.sm_base.specs.Names.{spelling}
use Rattle.sm_script.proofs.listings.write_copying.Goals as goal

pub returns : goal.returns
returns g c =
    let words : c.text.result ∷ c.name.result ∷ c.name-2.result ∷ c.count.result ∷ []
    ≡ c.args.word.now ∷ spelling c.args.from.now ∷ spelling c.args.into.now ∷ decimal c.args.cursor ∷ [] =
    cc (c.text.ensures, c.name.ensures, c.name-2.ensures, c.count.ensures) in
    Writes-same (ap by_commas words) c.write_joined.ensures
