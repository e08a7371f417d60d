use Rattle.std.proofs.Common.{◌≡◌, ◌⊎◌, inl, inr, List, ℕ, None, Some, IfOk, Result, Ok, Err, sym, ap, ◌∙◌}
use Rattle.std.specs.Prelude.{option_copied, OnOk}
use Rattle.sm_base.specs.declared.refusals.Refusal.TheVariants.{BadLine, NoMemory}
use Rattle.sm_machine.specs.declared.commands.Command.{Command}
use Rattle.sm_machine.specs.declared.replies.Reply.{Reply}
use Rattle.sm_machine.specs.declared.replies.Reply.TheVariants.{No}
use Rattle.sm_machine.specs.Lines.{spelled}
use Rattle.sm_machine.specs.Steps.{State, Outcome, refused}
use Rattle.sm_machine.specs.Tracking.{step_line, step_or_bad, tracked_step}
use Rattle.sm_run.specs.declared.steps.StepFault.{StepFault}
use Rattle.sm_trial.specs.Tallies.{IsStepped}
use Rattle.sm_trial.proofs.trials.step.Goals as goal

of_command : (σ : State) (line : List ℕ) (c : Command) → Some c ≡ spelled line → step_line σ line ≡ tracked_step σ c
unfolding step_line
of_command σ line c is = ap (λ o. step_or_bad o σ) (sym is)

of_none : (σ : State) (line : List ℕ) → None ≡ spelled line → step_line σ line ≡ refused σ BadLine
unfolding step_line
of_none σ line is = ap (λ o. step_or_bad o σ) (sym is)

by_step : (σ σ' : State) (line : List ℕ) (c : Command) (result : Result Reply StepFault) (is_ready is_kept : Type 0) → Some c ≡ spelled line
    → IfOk result (λ r. ((r ≡ No NoMemory) × (σ' ≡ σ)) ⊎ ((r ≡ (tracked_step σ c).reply) × (σ' ≡ (tracked_step σ c).after))) → OnOk result is_ready → is_kept
    → IsStepped σ σ' line result is_ready is_kept
by_step σ σ' line c (Err e) is_ready is_kept is says ready kept = record { reply = tt; ready = tt; kept = kept }
by_step σ σ' line c (Ok r) is_ready is_kept is (inl poor) ready kept = record { reply = inl poor.0; ready = ready; kept = kept }
by_step σ σ' line c (Ok r) is_ready is_kept is (inr whole) ready kept =
    let same = of_command σ line c is in
    record { reply = inr (whole.0 ∙ ap (λ (o : Outcome). o.reply) (sym same), whole.1 ∙ ap (λ (o : Outcome). o.after) (sym same)); ready = ready; kept = kept }

pub returns-in-Some-clause-stepped : goal.returns-in-Some-clause-stepped
returns-in-Some-clause-stepped g c = λ told ready kept line spells.
    let e = c.step.ensures in
    by_step _ _ line c.in-Some.command.now c.step.result _ _ (sym (ap option_copied c.in-Some.is) ∙ spells) (e.reply told ready) (e.ready told ready) (e.kept told ready)

pub returns-in-None-clause-stepped : goal.returns-in-None-clause-stepped
returns-in-None-clause-stepped g c = λ told ready kept line spells.
    let same = of_none (g.M.Steps.state c.args.machine.now) line (sym (ap option_copied c.in-None.is) ∙ spells) in
    record { reply = inr (ap (λ (o : Outcome). o.reply) (sym same), ap (λ (o : Outcome). o.after) (sym same)); ready = ready; kept = kept }

pub returns-in-None-clause-truthful : goal.returns-in-None-clause-truthful
returns-in-None-clause-truthful g c = λ told ready telling. (g.met.M.Steps.tells_now c.args.machine.now told ready telling, telling)
