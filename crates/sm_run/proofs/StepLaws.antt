-- The step of one line.
use Rattle.std.proofs.Common.{◌≡◌, ◌⊎◌, inl, inr, ℕ, Bool, true, false, List, map, None, Some, Result, Ok, Err, IfOk, OnOk, refl, sym, ap, ◌∙◌, subst}
use Rattle.sm_base.specs.declared.refusals.Refusal.{Refusal}
use Rattle.sm_base.specs.declared.refusals.Refusal.TheVariants.{BadLine, NoMemory}
use Rattle.sm_machine.specs.declared.commands.Command.{Command}
use Rattle.sm_machine.specs.declared.replies.Reply.{Reply}
use Rattle.sm_machine.specs.declared.replies.Reply.TheVariants.{No}
use Rattle.sm_machine.specs.Disks.{Disk}
use Rattle.sm_machine.specs.Lines.{spelled}
use Rattle.sm_machine.specs.Refusals.{refusal}
use Rattle.sm_machine.specs.Runs.{Turn, taken, settles, some_settling, is_accepted, is_settling, face}
use Rattle.sm_machine.specs.Steps.{State, Outcome, refused}
use Rattle.sm_machine.specs.Tracking.{step_line, step_or_bad, tracked_step}
use Rattle.sm_run.specs.Between.{IsBetween, IsSettledAs}
use Rattle.sm_run.specs.Parts.{turn_of, HasStepped}
use Rattle.sm_run.specs.Runs.{IsSpared, may_want_memory}
use Rattle.sm_run.specs.declared.steps.StepFault.{StepFault}

-- ---- what a turn gives

pub taken-poor : (σ : State) (line : List ℕ) → taken σ (turn_of line true) ≡ refused σ NoMemory
unfolding taken
taken-poor σ line = refl

pub taken-none : (σ : State) (line : List ℕ) → spelled line ≡ None → taken σ (turn_of line false) ≡ refused σ BadLine
unfolding taken step_line
taken-none σ line h = ap (λ c. step_or_bad c σ) h

pub taken-some : (σ : State) (line : List ℕ) (command : Command) → spelled line ≡ Some command → taken σ (turn_of line false) ≡ tracked_step σ command
unfolding taken step_line
taken-some σ line command h = ap (λ c. step_or_bad c σ) h

both : (x y : Bool) → (elim x [ true ↦ y | false ↦ false ]) ≡ true → (x ≡ true) × (y ≡ true)
both true y h = (refl, h)
both false y h = absurd (cc)

settles-parts : (σ : State) (t : Turn) → settles σ t ≡ true → (is_accepted ((taken σ t).reply) ≡ true) × (some_settling (spelled t.line) ≡ true)
unfolding settles
settles-parts σ t h = both (is_accepted ((taken σ t).reply)) (some_settling (spelled t.line)) h

is_accepted-no : (r : Refusal) → is_accepted (No r) ≡ false
unfolding is_accepted
is_accepted-no r = refl

-- a refused turn settles nothing
settles-refused : (σ : State) (t : Turn) (r : Refusal) → taken σ t ≡ refused σ r → settles σ t ≡ true → false ≡ true
settles-refused σ t r is h = sym (is_accepted-no r) ∙ ap (λ (o : Outcome). is_accepted o.reply) (sym is) ∙ (settles-parts σ t h).0

-- ---- the step of a line

pub spared-ample : (σ : State) (line : List ℕ) → IsSpared σ (turn_of line false)
spared-ample σ line = λ is. absurd (cc)

spared-spelled : (σ : State) (line : List ℕ) (command : Command) (poor : Bool) → spelled line ≡ Some command → refusal σ.shape command ≡ None → may_want_memory σ.shape command ≡ true → IsSpared σ (turn_of line poor)
spared-spelled σ line command poor h unrefused may = λ is. (command, h, unrefused, may)

-- the disks are those that a stop might leave before
same_between : (σ : State) (before : List Disk → Type 0) (ds : List Disk) → before ds → map face ds ≡ map face σ.disks → IsBetween before σ.disks σ.disks ds
same_between σ before ds h faces = inl (record {
  faces = faces;
  sectors = λ u k bytes is. (ds, h, is);
})

-- a refused line: the machine is as it was, and a stop leaves nothing new
pub stepped-refused : (σ σ' : State) (line : List ℕ) (poor : Bool) (r : Refusal) (reply : Reply) (before after : List Disk → Type 0) (is_ready is_kept : Type 0)
    → IsSpared σ (turn_of line poor) → taken σ (turn_of line poor) ≡ refused σ r → reply ≡ No r → σ' ≡ σ → is_ready → is_kept
    → ((ds : List Disk) → before ds → map face ds ≡ map face σ.disks) → ((ds : List Disk) → after ds → before ds)
    → HasStepped σ σ' line (Ok reply) before after is_ready is_kept
stepped-refused σ σ' line poor r reply before after is_ready is_kept spared is says same ready kept faces fewer =
    let state : (taken σ (turn_of line poor)).after ≡ σ = ap (λ (o : Outcome). o.after) is in
    record {
      poor = poor;
      spared = spared;
      reply = says ∙ ap (λ (o : Outcome). o.reply) (sym is);
      state = same ∙ sym state;
      ready = ready;
      kept = kept;
      crash = λ ds h. subst (λ (s : State). IsBetween before σ.disks s.disks ds) (sym state) (same_between σ before ds (fewer ds h) (faces ds (fewer ds h)));
      faces = λ ds h. faces ds (fewer ds h) ∙ ap (λ (s : State). map face s.disks) (sym state);
      settled = λ all. absurd (let clash : false ≡ true = settles-refused σ (turn_of line poor) r is all in cc);
    }

-- a line that was stepped
pub stepped-command : (σ σ' : State) (line : List ℕ) (command : Command) (result : Result Reply StepFault) (before after : List Disk → Type 0) (is_ready is_kept : Type 0)
    → spelled line ≡ Some command
    → IfOk result (λ r. ((r ≡ No NoMemory) × (σ' ≡ σ)) ⊎ ((r ≡ (tracked_step σ command).reply) × (σ' ≡ (tracked_step σ command).after)))
    → IfOk result (λ r. r ≡ No NoMemory → (refusal σ.shape command ≡ None) × (may_want_memory σ.shape command ≡ true))
    → OnOk result is_ready → is_kept
    → IfOk result (λ r. is_accepted r ≡ false → (ds : List Disk) → after ds → before ds)
    → ((ds : List Disk) → after ds → IsBetween before σ.disks ((tracked_step σ command).after).disks ds)
    → OnOk result ((ds : List Disk) → after ds → map face ds ≡ map face σ'.disks)
    → IfOk result (λ r. is_accepted r ≡ true → is_settling command ≡ true → (ds : List Disk) → after ds → IsSettledAs σ'.disks ds)
    → ((ds : List Disk) → before ds → map face ds ≡ map face σ.disks)
    → HasStepped σ σ' line result before after is_ready is_kept
stepped-command σ σ' line command (Err e) before after is_ready is_kept spells says takes ready kept refuses crash faces settled had =
    let is = taken-some σ line command spells in
    record {
      poor = false;
      spared = spared-ample σ line;
      reply = tt;
      state = tt;
      ready = tt;
      kept = kept;
      crash = λ ds h. subst (λ (o : Outcome). IsBetween before σ.disks o.after.disks ds) (sym is) (crash ds h);
      faces = tt;
      settled = tt;
    }
stepped-command σ σ' line command (Ok r) before after is_ready is_kept spells (inl poor) takes ready kept refuses crash faces settled had =
    stepped-refused σ σ' line true NoMemory r before after is_ready is_kept (spared-spelled σ line command true spells ((takes poor.0).0) ((takes poor.0).1)) (taken-poor σ line)
    poor.0 poor.1 ready kept had (refuses (ap is_accepted poor.0 ∙ is_accepted-no NoMemory))
stepped-command σ σ' line command (Ok r) before after is_ready is_kept spells (inr whole) takes ready kept refuses crash faces settled had =
    let is = taken-some σ line command spells in
    record {
      poor = false;
      spared = spared-ample σ line;
      reply = whole.0 ∙ ap (λ (o : Outcome). o.reply) (sym is);
      state = whole.1 ∙ ap (λ (o : Outcome). o.after) (sym is);
      ready = ready;
      kept = kept;
      crash = λ ds h. subst (λ (o : Outcome). IsBetween before σ.disks o.after.disks ds) (sym is) (crash ds h);
      faces = λ ds h. faces ds h ∙ ap (λ (s : State). map face s.disks) (whole.1 ∙ ap (λ (o : Outcome). o.after) (sym is));
      settled = λ all ds h.
          let p = settles-parts σ (turn_of line false) all in
          let accepted : is_accepted r ≡ true = ap is_accepted (whole.0 ∙ ap (λ (o : Outcome). o.reply) (sym is)) ∙ p.0 in
          let settling : is_settling command ≡ true = ap some_settling (sym spells) ∙ p.1 in
          subst (λ (s : State). IsSettledAs s.disks ds) (whole.1 ∙ ap (λ (o : Outcome). o.after) (sym is)) (settled accepted settling ds h);
    }
