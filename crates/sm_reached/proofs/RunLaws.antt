-- A run does what the commands of it that were accepted do, one after the other.
use Rattle.std.proofs.Common.{◌≡◌, ℕ, ◌⊎◌, Bool, true, false, List, [], ◌∷◌, ◌++◌, Option, Some, None, refl, sym, ap, ◌∙◌, subst, inl, inr}
use Rattle.sm_base.specs.declared.refusals.Refusal.{Refusal}
use Rattle.sm_machine.specs.declared.commands.Command.{Command}
use Rattle.sm_machine.specs.declared.commands.Command.TheVariants.{Create, Delete, Attach, Detach, Snapshot, Clone, Resize, Label, Write, Fill, Read, Flush, Gc, List as Listing, Stat, Track, Changed}
use Rattle.sm_machine.specs.Disks.{Disk}
use Rattle.sm_machine.specs.Lines.{spelled}
use Rattle.sm_machine.specs.Shapes.{Shape}
use Rattle.sm_machine.specs.Refusals.{refusal}
use Rattle.sm_machine.specs.Runs.{Turn, after_run, is_accepted, taken}
use Rattle.sm_machine.specs.Steps.{Outcome, State, accepted, reply_to}
use Rattle.sm_machine.specs.Tracking.{step_line, step_or_bad, tracked_step, tracked_unless}
use Rattle.sm_reached.specs.Reached.{accepted_in, if_accepted}
use Rattle.sm_reached.proofs.StepLaws.{AllPass, next, next_all}

reply_accepts : (disks : List Disk) (s : Shape) (c : Command) → is_accepted (reply_to disks s c) ≡ true
unfolding is_accepted reply_to
reply_accepts disks s (Create u size raw label) = refl
reply_accepts disks s (Delete u) = refl
reply_accepts disks s (Attach u mode) = refl
reply_accepts disks s (Detach u) = refl
reply_accepts disks s (Snapshot u twin) = refl
reply_accepts disks s (Clone u twin) = refl
reply_accepts disks s (Resize u size) = refl
reply_accepts disks s (Label u text) = refl
reply_accepts disks s (Write u sector bytes) = refl
reply_accepts disks s (Fill u sector count byte) = refl
reply_accepts disks s (Read u sector count) = refl
reply_accepts disks s (Flush u) = refl
reply_accepts disks s Gc = refl
reply_accepts disks s Listing = refl
reply_accepts disks s Stat = refl
reply_accepts disks s (Track u on) = refl
reply_accepts disks s (Changed u n) = refl

-- an outcome of a line that spells this: nothing was accepted and all is as it was, or a command was that no cause refuses
abbrev Did : State → Outcome → Option Command → Type 0
Did σ o spells = ((if_accepted (is_accepted o.reply) spells ≡ []) × (o.after.shape ≡ σ.shape))
    ⊎ ((c : Command) × (if_accepted (is_accepted o.reply) spells ≡ c ∷ []) × (refusal σ.shape c ≡ None) × (o.after.shape ≡ next σ.shape c))

did_by : (σ : State) (c : Command) (o : Option Refusal) → refusal σ.shape c ≡ o → Did σ (tracked_unless o σ c) (Some c)
unfolding accepted is_accepted
did_by σ c (Some r) e = inl (refl, refl)
did_by σ c None e = inr (c, ap (λ (b : Bool). if_accepted b (Some c)) (reply_accepts σ.disks σ.shape c), e, refl)

did_spelled : (σ : State) (spells : Option Command) → Did σ (step_or_bad spells σ) spells
unfolding is_accepted tracked_step
did_spelled σ None = inl (refl, refl)
did_spelled σ (Some c) = did_by σ c (refusal σ.shape c) refl

did_poor : (σ : State) (line : List ℕ) (poor : Bool) → Did σ (taken σ (record { line = line; poor = poor })) (spelled line)
unfolding is_accepted taken step_line
did_poor σ line true = inl (refl, refl)
did_poor σ line false = did_spelled σ (spelled line)

did_turn : (σ : State) (t : Turn) → Did σ (taken σ t) (spelled t.line)
did_turn σ t = did_poor σ t.line t.poor

-- the shape behind a run is that behind its accepted commands, none of which a cause refuses
pub run_is : (σ : State) (turns : List Turn) (s : Shape) → σ.shape ≡ s → ((after_run σ turns).shape ≡ next_all s (accepted_in σ turns)) × AllPass s (accepted_in σ turns)
unfolding after_run accepted_in next_all
run_is σ [] s e = (e, tt)
run_is σ (t ∷ turns) s e = elim (did_turn σ t) [
  | inl h ↦
      subst (λ (cs : List Command). ((after_run ((taken σ t).after) turns).shape ≡ next_all s (cs ++ accepted_in ((taken σ t).after) turns)) × AllPass s (cs ++ accepted_in ((taken σ t).after) turns))
      (sym h.0) (run_is ((taken σ t).after) turns s (h.1 ∙ e))
  | inr h ↦
      (let r = run_is ((taken σ t).after) turns (next s h.0) (h.3 ∙ ap (λ (x : Shape). next x h.0) e) in
      subst (λ (cs : List Command). ((after_run ((taken σ t).after) turns).shape ≡ next_all s (cs ++ accepted_in ((taken σ t).after) turns)) × AllPass s (cs ++ accepted_in ((taken σ t).after) turns))
      (sym h.1) (r.0, (subst (λ (x : Shape). refusal x h.0 ≡ None) e h.2, r.1)))
]
