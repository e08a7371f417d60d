use Rattle.std.proofs.Common.{◌≡◌, ◌∷◌, [], codes, decimal, ap}
use Rattle.sm_script.proofs.PieceLaws.{Writes-same}
use Rattle.sm_machine.specs.Replies.{by_spaces}
use Rattle.sm_script.proofs.steps.write_blocked.Goals as goal

pub returns : goal.returns
returns g c =
    let words : c.text.result ∷ c.text-2.result ∷ c.text-3.result ∷ c.text-4.result ∷ c.count.result ∷ c.text-5.result ∷ c.count-2.result ∷ []
    ≡ codes "ok" ∷ codes "gc" ∷ codes "blocked" ∷ codes "need" ∷ decimal c.args.need ∷ codes "free" ∷ decimal c.args.free ∷ [] =
    cc (c.text.ensures, c.text-2.ensures, c.text-3.ensures, c.text-4.ensures, c.count.ensures, c.text-5.ensures, c.count-2.ensures) in
    Writes-same (ap by_spaces words) c.write_joined.ensures
