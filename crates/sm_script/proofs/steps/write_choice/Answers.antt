use Rattle.std.proofs.Common.{◌≡◌, ◌∷◌, [], codes, ap}
use Rattle.sm_script.proofs.PieceLaws.{Writes-same}
use Rattle.sm_machine.specs.Replies.{by_spaces}
use Rattle.sm_base.specs.Names.{spelling}
use Rattle.sm_script.proofs.steps.write_choice.Goals as goal

pub returns : goal.returns
returns g c =
    let words : c.text.result ∷ c.text-2.result ∷ c.text-3.result ∷ c.name.result ∷ []
    ≡ codes "ok" ∷ codes "gc" ∷ c.args.step.now ∷ spelling c.args.name.now ∷ [] =
    cc (c.text.ensures, c.text-2.ensures, c.text-3.ensures, c.name.ensures) in
    Writes-same (ap by_spaces words) c.write_joined.ensures
