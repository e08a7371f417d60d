use Rattle.std.proofs.Common.{◌≡◌, true, false, None, IfOk, refl, sym, ap, subst, ◌∙◌}
use Rattle.std.specs.Prelude.{option_copied}
use Rattle.sm_base.specs.declared.refusals.Refusal.TheVariants.{BadLine, NoMemory}
use Rattle.sm_machine.specs.declared.replies.Reply.TheVariants.{No}
use Rattle.sm_machine.specs.Refusals.{refusal}
use Rattle.sm_run.specs.Runs.{may_want_memory}
use Rattle.sm_run.proofs.PoorLaws.{poor-spared}
use Rattle.sm_run.proofs.StepLaws.{spared-ample, stepped-command, stepped-refused, taken-none}
use Rattle.sm_run.proofs.answers.step.Goals as goal

pub returns-in-Some-clause-stepped : goal.returns-in-Some-clause-stepped
returns-in-Some-clause-stepped g c = λ told ready kept faces whole spells.
    let e = c.step.ensures in
    let spared = subst (λ s. IfOk c.step.result (λ r. r ≡ No NoMemory → (refusal s c.in-Some.command.now ≡ None) × (may_want_memory s c.in-Some.command.now ≡ true))) (sym (g.met.M.Steps.is_shape c.args.machine.now))
    (poor-spared (g.M.Steps.shape c.args.machine.now) c.in-Some.command.now (g.M.Steps.broken c.args.machine.now) c.step.result e.broken.1 e.causes e.spared) in
    stepped-command _ _ whole c.in-Some.command.now c.step.result (g.M.Steps.leaves c.args.machine.now) (g.M.Steps.leaves c.step.new.self) _ _ (sym spells ∙ ap option_copied c.in-Some.is)
    (e.reply told ready) spared (e.ready told ready) (e.kept told ready) e.refused (e.crash told ready) (e.faces told ready) (e.settled told ready) faces

pub returns-in-None-clause-stepped : goal.returns-in-None-clause-stepped
returns-in-None-clause-stepped g c = λ told ready kept faces whole spells.
    stepped-refused (g.M.Steps.state c.args.machine.now) _ whole false BadLine _ (g.M.Steps.leaves c.args.machine.now) (g.M.Steps.leaves c.args.machine.now) _ _ (spared-ample (g.M.Steps.state c.args.machine.now) whole) (taken-none _ whole (sym spells ∙ ap option_copied c.in-None.is))
    refl refl ready kept faces (λ ds h. h)

pub returns-in-None-clause-truthful : goal.returns-in-None-clause-truthful
returns-in-None-clause-truthful g c = λ told ready telling. (g.met.M.Steps.tells_now c.args.machine.now told ready telling, telling)
