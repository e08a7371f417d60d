-- What is counted of the replies to a run, and how far a trial has come.
use Rattle.std.specs.Prelude.{◌≡◌, ◌⊎◌, ℕ, ◌+◌, ◌*◌, ◌≤◌, Bool, true, false, List, [], ◌∷◌, sum, Result, IfOk, OnOk}
use Rattle.sm_base.specs.declared.refusals.Refusal.TheVariants.{NoMemory}
use Rattle.sm_machine.specs.declared.replies.Reply.{Reply}
use Rattle.sm_machine.specs.declared.replies.Reply.TheVariants.{No}
use Rattle.sm_machine.specs.Replies.{printed}
use Rattle.sm_machine.specs.Runs.{Turn, taken, after_run, ample, is_accepted}
use Rattle.sm_machine.specs.Steps.{State}
use Rattle.sm_machine.specs.Tracking.{step_line}
use Rattle.sm_run.specs.declared.steps.StepFault.{StepFault}
use Rattle.sm_trial.specs.declared.tallies.Tally.{Tally}
use Rattle.sm_trial.specs.Counts.{reply_most}
use Rattle.sm_script.specs.Trials.{lines_drawn, line_drawn, state_drawn, trial_count}

abbrev pub one_if : Bool → ℕ
one_if true = 1
one_if false = 0

abbrev pub one_unless : Bool → ℕ
one_unless true = 0
one_unless false = 1

-- with one reply more
unfoldable pub with_reply : Reply → Tally → Tally
with_reply r t = record {
  accepted = t.accepted + one_if (is_accepted r);
  refused = t.refused + one_unless (is_accepted r);
  sum = t.sum + sum (printed r);
}

-- with the replies to a run that begins in a state
unfoldable pub tally_after : State → List Turn → Tally → Tally
tally_after σ [] t = t
tally_after σ (turn ∷ turns) t = tally_after ((taken σ turn).after) turns (with_reply ((taken σ turn).reply) t)

abbrev pub no_replies : Tally
no_replies = record { accepted = 0; refused = 0; sum = 0 }

-- so many lines are left, and none of the counts is past what the others may have given
pub record IsWithin (t : Tally) (left : ℕ) : Type 0 where
  pub lines : t.accepted + t.refused + left ≡ trial_count
  pub bytes : t.sum + left * reply_most ≤ trial_count * reply_most

-- a line was stepped: it found no memory, or reply and state are the machine's
pub record IsStepped (σ σ' : State) (line : List ℕ) (result : Result Reply StepFault) (is_ready is_kept : Type 0) : Type 0 where
  pub reply : IfOk result (λ r. (r ≡ No NoMemory) ⊎ ((r ≡ (step_line σ line).reply) × (σ' ≡ (step_line σ line).after)))
  pub ready : OnOk result is_ready
  pub kept : is_kept

-- one line was stepped and counted: whatever comes of the lines that are left came of these with it
pub record Goes (σ : State) (t : Tally) (x : ℕ) (σ' : State) (t' : Tally) (x' : ℕ) (is_ready : Type 0) : Type 0 where
  pub state : σ' ≡ (step_line σ (line_drawn x)).after
  pub counted : t' ≡ with_reply (step_line σ (line_drawn x)).reply t
  pub next : x' ≡ state_drawn x
  pub ready : is_ready

-- what a trial gives that has so many lines left from the state x of the generator on
pub record Comes (σ : State) (t : Tally) (left x : ℕ) (end : State) (total : Tally) : Type 0 where
  pub state : after_run σ (ample (lines_drawn left x)) ≡ end
  pub counts : tally_after σ (ample (lines_drawn left x)) t ≡ total

-- every line was stepped: the machine's state, and what was counted
pub record HasTried (σ σ' : State) (lines : List (List ℕ)) (t : Tally) : Type 0 where
  pub state : σ' ≡ after_run σ (ample lines)
  pub counts : t ≡ tally_after σ (ample lines) no_replies
