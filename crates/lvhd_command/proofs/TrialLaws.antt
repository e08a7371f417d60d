-- What a trial did, status by status.
use Rattle.std.proofs.Common.{◌≡◌, ◌≢◌, ◌⊎◌, inl, inr, ⊎_elim, ℕ, ◌*◌, ◌<◌, ◌^◌, List, [], Option, Some, Result, Ok, Err, is_err, cond, length, lit≤, refl, sym, ap, ap₂, ◌∙◌, subst, arith}
use Rattle.std.specs.Prelude.{⊤}
use lib.Count.{ones}
use Rattle.sm_base.specs.Numbers.{IsGeometry, div_up}
use Rattle.sm_base.specs.declared.faults.CallFault.{CallFault}
use Rattle.sm_base.specs.declared.faults.CallFault.TheVariants as fault
use Rattle.sm_base.specs.declared.faults.Failed.{Failed}
use Rattle.sm_base.specs.declared.faults.OpenFault.{OpenFault}
use Rattle.sm_base.specs.declared.faults.OpenFault.TheVariants as opening
use Rattle.sm_base.specs.declared.sizes.Geometry.{Geometry}
use Rattle.sm_disk.specs.Held.{Held, Allows, reads}
use Rattle.sm_disk.specs.Streams.{Adds}
use Rattle.sm_disk.proofs.HeldLaws.{Allows-reads}
use Rattle.sm_disk.proofs.StreamLaws.{Adds-none}
use Rattle.cmd_list.proofs.ListLaws.{step_after}
use Rattle.cmd_list.proofs.StatSteps.{stat_after}
use Rattle.sm_machine.specs.Disks.{Disk}
use Rattle.sm_machine.specs.Shapes.{Shape, new_shape}
use Rattle.sm_machine.specs.declared.commands.Command.TheVariants.{List as ListDisks, Stat as StatImages}
use Rattle.sm_machine.specs.Steps.{Outcome, State, step}
use Rattle.sm_machine.specs.Tracking.{log_commits, logs_after, tracked_step}
use Rattle.sm_machine.proofs.Tracked.{unlogged_is_step}
use Rattle.sm_script.specs.Pieces.{Writes}
use Rattle.sm_trial.specs.declared.endings.Ending.{Ending as Counted}
use Rattle.sm_trial.specs.declared.tallies.Tally.{Tally as Sums}
use Rattle.sm_trial.specs.Endings.{HasCounted}
use Rattle.sm_standing.specs.Devices.{IsKeptOn, Shows}
use Rattle.vg_layout.specs.Opening.{plate_of}
use Rattle.vg_layout.specs.Places.{record_extents}
use Rattle.vg_store.specs.Formats.{IsFormatted, IsLeftByFormat, least_size}
use Rattle.vg_store.specs.Openings.{IsAnswer}
use Rattle.lvhd_command.specs.declared.statuses.Status.{Status}
use Rattle.lvhd_command.specs.declared.statuses.Status.TheVariants.{Done, Words, Device, Source, Sink, Refused, Memory, TooLong, Denied}
use Rattle.lvhd_command.specs.declared.words.Form.TheVariants.{Trial}
use Rattle.lvhd_command.specs.Devices.{IsKeptDevice, IsOpenedOn, IsRefusedOn, IsSoundOn, IsTruthfulDevice, IsTruthfulOn}
use Rattle.lvhd_command.specs.Formatting.{HasSizes, Sides}
use Rattle.vg_layout.specs.Places.{area_place, best_layout, new_extents}
use Rattle.vg_layout.specs.Sectors.{Plate}
use Rattle.vg_store.specs.Formats.{new_group}
use Rattle.lvhd_command.specs.Running.{HasTold}
use Rattle.lvhd_command.specs.Texts.{line_of, too_small_words}
use Rattle.lvhd_command.specs.Trials.{HasTriedFrom, IsLeftByTrial, IsTooSmall, SaysTrial, SessionTried, TrialDid, summary, summary_words, trial_asked, trial_least, trial_start}
use Rattle.lvhd_command.proofs.ExactLaws.{sound_or_refused}
use Rattle.lvhd_command.proofs.FormattedLaws.{formatted_kept, formatted_start}
use Rattle.lvhd_command.proofs.OpenLaws.{kept_sound}
use Rattle.lvhd_command.proofs.TruthLaws.{new_truthful, nothing_truthful}

-- ---- a line that was to be printed

pub said_trial : (text : List ℕ) (had got : Option (List ℕ)) (before now : ℕ) (p : Result ⊤ Failed) (status : Status) → Writes text had got before now p → status ≡ cond (is_err p) Sink Done → SaysTrial text had got status
said_trial text had got before now (Ok u) status w is = subst (SaysTrial text had got) (sym is) w.adds
said_trial text had got before now (Err e) status w is = subst (SaysTrial text had got) (sym is) w.front

pub said_small : (s : Sides) (number : ℕ) (text : List ℕ) (before now : ℕ) (p : Result ⊤ Failed) (status : Status) → Writes text s.had s.got before now p → status ≡ cond (is_err p) Sink Refused → IsTooSmall s text
    → TrialDid s number status
said_small s number text before now (Ok u) status w is small = subst (TrialDid s number) (sym is) (text, small, w.adds)
said_small s number text before now (Err e) status w is small = subst (TrialDid s number) (sym is) (text, inl small, w.front)

-- the least size of a trial's repository
pub least_known : (extent : ℕ) → extent * 512 ≡ 16384 → least_size extent ≡ trial_least
unfolding record_extents div_up area_place
least_known extent is = let e : extent ≡ 32 = omega (arith, is) in subst (λ n. least_size n ≡ trial_least) (sym e) refl

pub trial_geometry : IsGeometry 32 8 64
unfolding ones
trial_geometry = record { extent_power = refl; extent_least = lit≤ tt; extent_most = lit≤ tt; block_power = refl; block_least = lit≤ tt; block_most = lit≤ tt; within = lit≤ tt; entries_least = lit≤ tt; entries_most = lit≤ tt }

pub too_small : (s : Sides) (extent sectors : ℕ) → extent * 512 ≡ 16384 → s.Unchanged → s.size < least_size extent → sectors ≡ least_size extent → IsTooSmall s (line_of (too_small_words sectors))
too_small s extent sectors sized same small is = record {
  unchanged = same;
  small = subst (λ n. s.size < n) (least_known extent sized) small;
  text_is = ap (λ n. line_of (too_small_words n)) (is ∙ least_known extent sized);
}

-- ---- the lines on an open repository

-- a call that failed, or found no memory: nothing was said
pub call_failed : (size : ℕ) (h : Held) (had : Option (List ℕ)) (start : State) (number : ℕ) (why : CallFault) (status : Status) → ((why ≡ fault.Device) × (status ≡ Device)) ⊎ ((why ≡ fault.NoMemory) × (status ≡ Memory))
    → IsKeptDevice size h → IsTruthfulDevice size h → SessionTried size h had had start number status
call_failed size h had start number why status (inl is) kept truthful = subst (SessionTried size h had had start number) (sym is.1) (kept, truthful, Adds-none had)
call_failed size h had start number why status (inr is) kept truthful = subst (SessionTried size h had had start number) (sym is.1) (kept, truthful, Adds-none had)

-- all lines were stepped, and what was counted was said, or could not be
pub session_said : (size : ℕ) (h : Held) (had got : Option (List ℕ)) (start : State) (number : ℕ) (text : List ℕ) (status : Status) → SaysTrial text had got status → (status ≢ Device → HasTriedFrom size h start number text) → IsKeptDevice size h → IsTruthfulDevice size h
    → SessionTried size h had got start number status
session_said size h had got start number text Done says tried kept truthful = (text, tried (λ e. let x = e in cc), says)
session_said size h had got start number text Sink says tried kept truthful = (text, tried (λ e. let x = e in cc), says)
session_said size h had got start number text Device says tried kept truthful = (kept, truthful, says)
session_said size h had got start number text Memory says tried kept truthful = absurd says
session_said size h had got start number text Refused says tried kept truthful = absurd says
session_said size h had got start number text Words says tried kept truthful = absurd says
session_said size h had got start number text Source says tried kept truthful = absurd says
session_said size h had got start number text TooLong says tried kept truthful = absurd says
session_said size h had got start number text Denied says tried kept truthful = absurd says

-- it does nothing to logs
list_unlogged : (σ : State) → tracked_step σ ListDisks ≡ step σ ListDisks
unfolding logs_after log_commits
list_unlogged σ = unlogged_is_step σ ListDisks refl refl

stat_unlogged : (σ : State) → tracked_step σ StatImages ≡ step σ StatImages
unfolding logs_after log_commits
stat_unlogged σ = unlogged_is_step σ StatImages refl refl

-- counting changes nothing
pub counted_still : (σ σ' : State) (e : Counted) → σ.shape.sequence < 2 ^ 48 → HasCounted σ σ' e → σ' ≡ σ
counted_still σ σ' e few c =
    c.state ∙ ap (λ (x : Outcome). (tracked_step x.after StatImages).after) (list_unlogged σ) ∙ ap (λ (x : Outcome). x.after) (stat_unlogged ((step σ ListDisks).after))
    ∙ ap (λ (x : State). (step x StatImages).after) (step_after σ few) ∙ stat_after σ few

-- and what was counted is what the summary says
pub counted_words : (number : ℕ) (t : Sums) (σ σ' : State) (e : Counted) → HasCounted σ σ' e → line_of (summary_words number t e.disks e.images e.free) ≡ summary number t σ
counted_words number t σ σ' e c =
    ap (λ n. line_of (summary_words number t n e.images e.free)) c.disks
    ∙ ap (λ n. line_of (summary_words number t (length σ.disks) n e.free)) c.images
    ∙ ap (λ n. line_of (summary_words number t (length σ.disks) (length σ.shape.images) n)) c.free_extents

-- ---- the whole

-- the state of a session on a device that was formatted for a trial
pub start_is : (size : ℕ) (image : ℕ → List ℕ) (g : Geometry) (repository : List ℕ) (σ : State) → IsFormatted size image g repository → HasSizes trial_asked g → Shows size image σ.disks → IsOpenedOn size image σ.shape → σ ≡ trial_start size
start_is size image g repository σ f sizes shown o =
    let s = formatted_start size image g repository σ.disks σ.shape f shown o in
    let extent : g.extent ≡ 32 = omega (arith, sizes.extent) in
    let block : g.block ≡ 8 = omega (arith, sizes.block) in
    ap₂ (λ (ds : List Disk) (x : Shape). record { disks = ds; shape = x }) s.0
    (s.1 ∙ (ap₂ (λ e b. new_shape e b g.entries (new_extents size e) (record_extents e)) extent block ∙ ap (λ n. new_shape 32 8 n (new_extents size 32) (record_extents 32)) sizes.entries))

-- of the lines on an open repository
pub trial_did : (s : Sides) (number : ℕ) (start : State) (status : Status) → start ≡ trial_start s.size → SessionTried s.size s.new s.had s.got start number status → TrialDid s number status
trial_did s number start status is t = by status (subst (λ (x : State). SessionTried s.size s.new s.had s.got x number status) is t)
  where
    by : (x : Status) → SessionTried s.size s.new s.had s.got (trial_start s.size) number x → TrialDid s number x
    by Done h = h
    by Sink h = (h.0, inr h.1, h.2)
    by Device h = ((λ image allowed. inr (inr (h.0 image allowed, h.1 image allowed))), h.2)
    by Memory h = ((λ image allowed. inr (inr (h.0 image allowed, h.1 image allowed))), h.2)
    by Refused h = absurd h
    by Words h = absurd h
    by Source h = absurd h
    by TooLong h = absurd h
    by Denied h = absurd h

-- what a format left
left_one : (size : ℕ) (old : Held) (image : ℕ → List ℕ) (g : Geometry) (repository : List ℕ) → IsLeftByFormat size old g repository image
    → Allows size old image ⊎ ((plate_of size image ≡ Err opening.NotARepository) ⊎ (IsKeptOn size image × IsTruthfulOn size image))
left_one size old image g repository (inl before) = inl before
left_one size old image g repository (inr (inl none)) = inr (inl none)
left_one size old image g repository (inr (inr new)) = inr (inr (formatted_kept size image g repository new, new_truthful size image g repository new))

pub left_tried : (size : ℕ) (old new : Held) (g : Geometry) (repository : List ℕ) → ((i : ℕ → List ℕ) → Allows size new i → IsLeftByFormat size old g repository i) → (image : ℕ → List ℕ) → Allows size new image
    → Allows size old image ⊎ ((plate_of size image ≡ Err opening.NotARepository) ⊎ (IsKeptOn size image × IsTruthfulOn size image))
left_tried size old new g repository left = λ image allowed. left_one size old image g repository (left image allowed)

pub sound_kept : (size : ℕ) (h : Held) → IsKeptDevice size h → IsSoundOn size (reads h)
sound_kept = kept_sound

-- a sound device is not refused: it failed, or memory was wanting
pub not_opened : (s : Sides) (number : ℕ) (image : ℕ → List ℕ) (told : Type 0) (e : OpenFault) (first last before now : ℕ) (status : Status) → told → IsSoundOn s.size image
    → IsAnswer (λ f. told → IsRefusedOn s.size image f) first last e → HasTold e s.had s.got before now status → IsLeftByTrial s → TrialDid s number status
not_opened s number image told opening.Device first last before now status it sound a t left = subst (TrialDid s number) (sym t.0) (left, subst (λ x. Adds s.had [] x) (sym t.1) (Adds-none s.had))
not_opened s number image told opening.NoMemory first last before now status it sound a t left = subst (TrialDid s number) (sym t.0) (left, subst (λ x. Adds s.had [] x) (sym t.1) (Adds-none s.had))
not_opened s number image told opening.NotARepository first last before now status it sound a t left = absurd (sound_or_refused s.size image opening.NotARepository sound (a.0 it))
not_opened s number image told (opening.Unsupported v) first last before now status it sound a t left = absurd (sound_or_refused s.size image (opening.Unsupported v) sound (a.0 it))
not_opened s number image told (opening.Damaged p) first last before now status it sound a t left = absurd (sound_or_refused s.size image (opening.Damaged p) sound (a.0 it))

-- where no call failed on a device that is large enough, it is done, or memory was wanting
pub trial_completes : (s : Sides) (number : ℕ) (status : Status) → TrialDid s number status → (s.size < trial_least → ⊥) → (status ≡ Device → ⊥) → (status ≡ Sink → ⊥) → (status ≡ Done) ⊎ (status ≡ Memory)
trial_completes s number Done did large device sink = inl refl
trial_completes s number Memory did large device sink = inr refl
trial_completes s number Refused did large device sink = absurd (large (did.1).small)
trial_completes s number Device did large device sink = absurd (device refl)
trial_completes s number Sink did large device sink = absurd (sink refl)
trial_completes s number Words did large device sink = absurd did
trial_completes s number Source did large device sink = absurd did
trial_completes s number TooLong did large device sink = absurd did
trial_completes s number Denied did large device sink = absurd did

-- what a stop leaves of a trial is truthful where what stood before was, by each image and by the device
one_truthful : (size : ℕ) (old : Held) (image : ℕ → List ℕ) → IsTruthfulDevice size old → Allows size old image ⊎ ((plate_of size image ≡ Err opening.NotARepository) ⊎ (IsKeptOn size image × IsTruthfulOn size image)) → IsTruthfulOn size image
one_truthful size old image was (inl before) = was image before
one_truthful size old image was (inr (inl none)) = nothing_truthful size image none
one_truthful size old image was (inr (inr new)) = new.1

pub trial_truthful : (s : Sides) (number : ℕ) (status : Status) → TrialDid s number status → IsTruthfulDevice s.size s.old → (s.Unchanged → IsTruthfulDevice s.size s.new) → IsTruthfulDevice s.size s.new
trial_truthful s number Done did was same = (did.1).rests.truthful
trial_truthful s number Refused did was same = same (did.1).unchanged
trial_truthful s number Sink did was same = ⊎_elim (λ small. same small.unchanged) (λ tried. tried.rests.truthful) did.1
trial_truthful s number Device did was same = λ image allowed. one_truthful s.size s.old image was (did.0 image allowed)
trial_truthful s number Memory did was same = λ image allowed. one_truthful s.size s.old image was (did.0 image allowed)
trial_truthful s number Words did was same = absurd did
trial_truthful s number Source did was same = absurd did
trial_truthful s number TooLong did was same = absurd did
trial_truthful s number Denied did was same = absurd did

-- the words ask for one number alone
pub same_number : (a b : ℕ) → Some (Trial a) ≡ Some (Trial b) → a ≡ b
same_number a b e = (let x = e in cc)

-- ---- the label

pub call_not_done : (why : CallFault) (status : Status) → ((why ≡ fault.Device) × (status ≡ Device)) ⊎ ((why ≡ fault.NoMemory) × (status ≡ Memory)) → status ≡ Done → ⊥
call_not_done why status (inl is) done = (let x = sym is.1 ∙ done in cc)
call_not_done why status (inr is) done = (let x = sym is.1 ∙ done in cc)

pub told_not_done : (e : OpenFault) (had got : Option (List ℕ)) (before now : ℕ) (status : Status) → HasTold e had got before now status → status ≡ Done → ⊥
told_not_done opening.Device had got before now status t done = (let x = sym t.0 ∙ done in cc)
told_not_done opening.NoMemory had got before now status t done = (let x = sym t.0 ∙ done in cc)
told_not_done opening.NotARepository had got before now status t done = (subst (λ s. HasTold opening.NotARepository had got before now s) done t).1
told_not_done (opening.Unsupported v) had got before now status t done = (subst (λ s. HasTold (opening.Unsupported v) had got before now s) done t).1
told_not_done (opening.Damaged p) had got before now status t done = (subst (λ s. HasTold (opening.Damaged p) had got before now s) done t).1

pub said_not_done : (p : Result ⊤ Failed) (status : Status) → status ≡ cond (is_err p) Sink Refused → status ≡ Done → ⊥
said_not_done (Ok u) status is done = (let x = sym is ∙ done in cc)
said_not_done (Err e) status is done = (let x = sym is ∙ done in cc)

mk : ℕ → ℕ → ℕ → ℕ → List ℕ → Plate
mk size e b n u = record { extent = e; block = b; entries = n; count = new_extents size e; layout = best_layout size e; identity = u }

pub same_plate : (size : ℕ) (a b : Geometry) (u w : List ℕ) → HasSizes trial_asked a → HasSizes trial_asked b → u ≡ w → (new_group size a u).plate ≡ (new_group size b w).plate
unfolding mk
same_plate size a b u w ha hb same =
    let e : a.extent ≡ b.extent = omega (arith, ha.extent, hb.extent) in
    let k : a.block ≡ b.block = omega (arith, ha.block, hb.block) in
    let n : a.entries ≡ b.entries = omega (arith, ha.entries, hb.entries) in
    ap (λ x. mk size x a.block a.entries u) e ∙ ap (λ x. mk size b.extent x a.entries u) k ∙ ap (λ x. mk size b.extent b.block x u) n ∙ ap (λ x. mk size b.extent b.block b.entries x) same
