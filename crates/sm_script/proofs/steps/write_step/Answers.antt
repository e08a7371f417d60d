use Rattle.std.proofs.Common.{◌∷◌, codes, ap, sym}
use Rattle.sm_script.proofs.PieceLaws.{Writes-same}
use Rattle.sm_machine.specs.Replies.{by_spaces}
use Rattle.sm_script.proofs.steps.write_step.Goals as goal

pub returns-in-Some : goal.returns-in-Some
returns-in-Some g c =
    Writes-same (ap (λ l. by_spaces (codes "ok" ∷ codes "gc" ∷ c.args.step.now ∷ l)) (sym c.in-Some.ensures)) c.write_choice.ensures

pub returns-in-None : goal.returns-in-None
returns-in-None g c =
    Writes-same (ap (λ l. by_spaces (codes "ok" ∷ codes "gc" ∷ c.args.step.now ∷ l)) (sym c.in-None.ensures)) c.write_alone.ensures
