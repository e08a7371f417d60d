-- Commands that only read, and commands that did their work, told as a session tells them.
use Rattle.std.proofs.Common.{◌≡◌, ◌⊎◌, inl, inr, ⊎_elim, ℕ, ◌+◌, ◌^◌, ◌<◌, Bool, true, false, List, Option, None, Ok, Err, refl, sym, ap, ap₂, ◌∙◌, subst, arith}
use Rattle.std.proofs.lemmas.Bool.{true≢false}
use Rattle.std.proofs.Math.Path.{fun_ext}
use Rattle.sm_base.specs.declared.faults.Failed.{Failed}
use Rattle.sm_base.specs.declared.refusals.Refusal.TheVariants.{NoMemory}
use Rattle.sm_base.specs.declared.refusals.Refusal.{Refusal}
use Rattle.sm_disk.specs.Held.{Held, SameHeld}
use Rattle.vg_meta.specs.Roomy.{table_alone}
use Rattle.vg_meta.specs.Tables.{VolumeTable}
use Rattle.vg_volumes.specs.Commits.{IsBefore}
use Rattle.vg_volumes.specs.Sites.{area_size}
use Rattle.vg_volumes.specs.Stored.{stored, IsChoiceOf, OnlyReads}
use Rattle.vg_volumes.specs.declared.stores.Store.{Ghosts}
use Rattle.vg_volumes.proofs.StoredLaws.{reads_none}
use Rattle.sm_machine.specs.declared.commands.Command.{Command}
use Rattle.sm_machine.specs.declared.replies.Reply.{Reply}
use Rattle.sm_machine.specs.declared.replies.Reply.TheVariants.{No}
use Rattle.sm_machine.specs.Disks.{Disk}
use Rattle.sm_machine.specs.Runs.{is_accepted, is_settling}
use Rattle.sm_machine.specs.Commits.{commits, is_given_up, one_if, own_commits}
use Rattle.sm_machine.specs.Refusals.{refusal}
use Rattle.sm_machine.specs.Shapes.{Shape, risen}
use Rattle.sm_machine.specs.Steps.{State, Outcome, step, given_up, shape_after, shape_next, disks_next, reply_to, accepted, refused, unless_refused}
use Rattle.sm_run.specs.Between.{IsBetween}
use Rattle.sm_standing.specs.Keeping.{IsKept}
use Rattle.sm_standing.specs.Logs.{IsLogged}
use Rattle.sm_standing.specs.Standing.{disks}
use Rattle.sm_ready.specs.Done.{HasDone}
use Rattle.sm_ready.specs.Known.{known, shape_in}
use Rattle.sm_ready.specs.Ready.{IsReady}
use Rattle.sm_ready.specs.Sessions.{IsOrderlyStore, IsReadyStore, state_in, store_state}
use Rattle.sm_ready.specs.Stores.{MayShow, StoreLeaves, content_in, store_content}
use Rattle.sm_ready.specs.Taken.{StoreTakes, StoreTakesTo}
use Rattle.sm_ready.specs.declared.memory.Memory.{Memory}
use Rattle.sm_ready.proofs.CommitLaws.{IsSafe, ready_safe}
use Rattle.sm_ready.proofs.LeaveLaws.{left_choice}
use Rattle.sm_ready.proofs.LogLaws.{holds_ready, logged_before}

pub held_same : (a b : Held) → SameHeld a b → b ≡ a
held_same a b e = ap₂ (λ (f : ℕ → List ℕ) (p : ℕ → List (List ℕ)). let h : Held = record { floor = f; pending = p } in h) (fun_ext (λ q. e.floor q)) (fun_ext (λ q. e.pending q))

-- the answer of a command that left all as it was: memory was wanting, or it is the machine's, which stays as it was
abbrev pub IsAnswer : State → Outcome → Reply → Type 0
IsAnswer σ o r = (r ≡ No NoMemory) ⊎ ((r ≡ o.reply) × (o.after ≡ σ))

module _ (o : Outcome) {S : Type 0} (g : Ghosts S) (a b : S) (m n : Memory) (command : Command) (r : Reply) (orderly : IsOrderlyStore g a m) (usable : g.failed a ≡ false) (told : g.told) (ready : IsReadyStore g a m)
    (now : (v : VolumeTable) (image : ℕ → List ℕ) → g.leaves a v image → IsChoiceOf (stored g a) v image) where
  safe : IsSafe (g.site a) (table_alone (g.table a)) (g.area a) (StoreLeaves g a) (disks (store_content g a))
  safe = ready_safe (g.site a) (table_alone (g.table a)) (g.area a) (known m) (StoreLeaves g a) orderly ready (λ image is. inr (told, usable, is))

  left : (v : VolumeTable) (image : ℕ → List ℕ) → StoreLeaves g a v image → IsBefore (area_size (g.site a)) (table_alone (g.table a)) (g.area a) v image
  left v image l = left_choice g.told (g.site a) (table_alone (g.table a)) (g.area a) (g.leaves a) (g.failed a) now v image l

  -- a command that only read
  pub taken_reads : OnlyReads g a b → ((t : VolumeTable) (image : ℕ → List ℕ) → g.leaves b t image → g.leaves a t image) → n ≡ m → IsAnswer (store_state g a m) o r → (is_accepted r ≡ true → is_settling command ≡ true → ⊥)
      → StoreTakesTo o g command a m b n (Ok r)
  taken_reads reads fewer same answer unsettling = record {
    reply = ⊎_elim (λ poor. inl (poor, unchanged)) (λ w. inr (w.0, unchanged ∙ sym w.1)) answer;
    ready = still;
    settled = λ yes settles. absurd (unsettling yes settles);
    crash = λ v image l.
        let here = left v image (before v image l) in
        subst (λ y. IsKept (content_in (g.site a) y image) × IsBetween (MayShow (g.site a) (StoreLeaves g a)) (disks (store_content g a)) o.after.disks (disks (content_in (g.site a) y image))) (sym here.table_is)
        (safe.kept image here.sectors, inl (safe.shown image here.sectors));
    logged = λ v image l. subst (λ (x : Memory). IsLogged (content_in (g.site a) v image) (known x).logs) (sym same)
        (logged_before (holds_ready (g.site a) (table_alone (g.table a)) (g.area a) (known m) orderly ready) orderly.table v image (left v image (before v image l)));
  }
    where
      area : g.area b ≡ g.area a
      area = held_same (g.area a) (g.area b) (reads.held told)

      unchanged : state_in (g.site a) (table_alone (g.table b)) (g.area b) (known n) ≡ store_state g a m
      unchanged = ap (λ (x : Memory). state_in (g.site a) (table_alone (g.table b)) (g.area b) (known x)) same ∙ ap₂ (λ (t : VolumeTable) (h : Held). state_in (g.site a) t h (known m)) reads.stays.table area

      still : IsReady (g.site a) (table_alone (g.table b)) (g.area b) (known n)
      still = subst (λ (x : Memory). IsReady (g.site a) (table_alone (g.table b)) (g.area b) (known x)) (sym same)
          (subst (λ t. IsReady (g.site a) t (g.area b) (known m)) (sym reads.stays.table) (subst (λ (h : Held). IsReady (g.site a) (table_alone (g.table a)) h (known m)) (sym area) ready))

      before : (v : VolumeTable) (image : ℕ → List ℕ) → StoreLeaves g b v image → StoreLeaves g a v image
      before v image l = ⊎_elim (λ h. inl (fewer v image h))
          (λ w. inr (
            told,
            usable,
            subst (λ (h : Held). IsBefore (area_size (g.site a)) (table_alone (g.table a)) h v image) area
                (subst (λ y. IsBefore (area_size (g.site a)) y (g.area b) v image) reads.stays.table (subst (λ x. IsBefore (area_size x) (table_alone (g.table b)) (g.area b) v image) reads.stays.site w.2)),
          )) l

  -- a command that did its work
  pub taken_done : (ok : Type 0) → ok → o.reply ≡ r → shape_in (g.site a) (table_alone (g.table b)) (known n) ≡ o.after.shape
      → HasDone (g.site a) (table_alone (g.table a)) (table_alone (g.table b)) (g.area a) (g.area b) (known n) (StoreLeaves g a) (StoreLeaves g b) ok o.after.disks
      → StoreTakesTo o g command a m b n (Ok r)
  taken_done ok fine replied shaped done = record {
    reply = inr (sym replied, ap₂ (λ (ds : List Disk) (σ : _). let x : State = record { disks = ds; shape = σ } in x) (done.shown fine) shaped);
    ready = done.ready fine;
    settled = λ yes settles. done.settled fine;
    crash = done.crash;
    logged = done.logged;
  }

  -- and one that failed
  pub taken_failed : (ok : Type 0) (f : Failed)
      → HasDone (g.site a) (table_alone (g.table a)) (table_alone (g.table b)) (g.area a) (g.area b) (known n) (StoreLeaves g a) (StoreLeaves g b) ok o.after.disks
      → StoreTakesTo o g command a m b n (Err f)
  taken_failed ok f done = record { reply = tt; ready = tt; settled = tt; crash = done.crash; logged = done.logged }

-- ---- the step of a command

-- it is refused, or accepted
pub step_by : (σ : State) (c : Command) (o : Option Refusal) → refusal σ.shape c ≡ o → step σ c ≡ unless_refused o σ c
unfolding step
step_by σ c o is = ap (λ x. unless_refused x σ c) is

-- accepted where no cause applies
pub step_accepted : (σ : State) (c : Command) → refusal σ.shape c ≡ None → step σ c ≡ accepted σ c
step_accepted σ c passes = step_by σ c None passes

-- an accepted one that changes neither disks nor shape, and makes no commit, leaves the state
pub step_still : (σ : State) (c : Command) → refusal σ.shape c ≡ None → σ.shape.sequence < 2 ^ 48 → disks_next σ.disks σ.shape c ≡ σ.disks → shape_after σ.shape c ≡ σ.shape → is_given_up σ.shape c ≡ false
    → own_commits σ.shape c ≡ 0 → (step σ c).after ≡ σ
unfolding accepted shape_next commits
step_still σ c passes few same_disks same_shape keeps none =
    ap (λ (x : Outcome). x.after) (step_accepted σ c passes)
    ∙ ap₂ (λ (ds : List Disk) (sh : Shape). let x : State = record { disks = ds; shape = record (given_up (is_given_up σ.shape c) sh) { sequence = risen σ.shape.sequence (commits σ.shape c) } } in x) same_disks same_shape
    ∙ ap₂ (λ (b : Bool) (n : ℕ). let x : State = record σ { shape = record (given_up b σ.shape) { sequence = risen σ.shape.sequence (one_if b + n) } } in x) keeps none
    ∙ ap (λ (k : ℕ). let x : State = record σ { shape = record σ.shape { sequence = k } } in x) (omega arith)

-- ---- a command is taken

-- what is known of a store and of memory where a command is taken
pub record IsTold {S : Type 0} (g : Ghosts S) (a : S) (m : Memory) : Type 0 where
  pub orderly : IsOrderlyStore g a m
  pub usable : g.failed a ≡ false
  pub told : g.told
  pub ready : IsReadyStore g a m
  pub now : (v : VolumeTable) (image : ℕ → List ℕ) → g.leaves a v image → IsChoiceOf (stored g a) v image

pub is_told : {S : Type 0} (g : Ghosts S) (a : S) (m : Memory) → IsOrderlyStore g a m → g.failed a ≡ false → g.told → IsReadyStore g a m → ((v : VolumeTable) (image : ℕ → List ℕ) → g.leaves a v image → IsChoiceOf (stored g a) v image)
    → IsTold g a m
is_told g a m orderly usable told ready now = record { orderly = orderly; usable = usable; told = told; ready = ready; now = now }

unaccepted : (q : Refusal) → is_accepted (No q) ≡ true → ⊥
unfolding is_accepted
unaccepted q e = true≢false (sym e)

-- to this reply and this state
module _ {o : Outcome} {S : Type 0} {g : Ghosts S} {a : S} {m : Memory} (h : IsTold g a m) (c : Command) where
  -- refused: nothing was done
  pub taken_refused : (q : Refusal) → o ≡ refused (store_state g a m) q → StoreTakesTo o g c a m a m (Ok (No q))
  taken_refused q is =
      taken_reads o g a a m m c (No q) h.orderly h.usable h.told h.ready h.now (reads_none a) (λ t image l. l) refl
      (inr (ap (λ (x : Outcome). x.reply) (sym is), ap (λ (x : Outcome). x.after) is)) (λ yes settles. unaccepted q yes)

  -- memory was wanting, and nothing was written
  pub taken_poor : {b : S} (n : Memory) → OnlyReads g a b → ((t : VolumeTable) (image : ℕ → List ℕ) → g.leaves b t image → g.leaves a t image) → n ≡ m → StoreTakesTo o g c a m b n (Ok (No NoMemory))
  taken_poor {b} n reads fewer same =
      taken_reads o g a b m n c (No NoMemory) h.orderly h.usable h.told h.ready h.now reads fewer same (inl refl) (λ yes settles. unaccepted NoMemory yes)

  -- it is answered from memory, and leaves the state
  pub taken_answered : {r : Reply} → (r ≡ No NoMemory) ⊎ (r ≡ o.reply) → o.after ≡ store_state g a m → is_settling c ≡ false → StoreTakesTo o g c a m a m (Ok r)
  taken_answered {r} answer still unsettling =
      taken_reads o g a a m m c r h.orderly h.usable h.told h.ready h.now (reads_none a) (λ t image l. l) refl (⊎_elim (λ poor. inl poor) (λ is. inr (is, still)) answer) (λ yes settles. true≢false (sym settles ∙ unsettling))

  module _ {b : S} (n : Memory) {ok : Type 0} (accepts : o ≡ accepted (store_state g a m) c)
      (done : HasDone (g.site a) (table_alone (g.table a)) (table_alone (g.table b)) (g.area a) (g.area b) (known n) (StoreLeaves g a) (StoreLeaves g b) ok (disks_next (store_state g a m).disks (store_state g a m).shape c)) where
    stepped : HasDone (g.site a) (table_alone (g.table a)) (table_alone (g.table b)) (g.area a) (g.area b) (known n) (StoreLeaves g a) (StoreLeaves g b) ok o.after.disks
    unfolding accepted
    stepped = subst (λ ds. HasDone (g.site a) (table_alone (g.table a)) (table_alone (g.table b)) (g.area a) (g.area b) (known n) (StoreLeaves g a) (StoreLeaves g b) ok ds)
        (ap (λ (x : Outcome). x.after.disks) (sym accepts)) done

    -- it did its work
    pub done_by : (r : Reply) → r ≡ reply_to (store_state g a m).disks (store_state g a m).shape c → ok → shape_in (g.site a) (table_alone (g.table b)) (known n) ≡ o.after.shape → StoreTakesTo o g c a m b n (Ok r)
    unfolding accepted
    done_by r replied fine shaped =
        taken_done o g a b m n c r h.orderly h.usable h.told h.ready h.now ok fine (ap (λ (x : Outcome). x.reply) accepts ∙ sym replied) shaped stepped

    -- and it failed
    pub stopped_by : (f : Failed) → StoreTakesTo o g c a m b n (Err f)
    stopped_by f = taken_failed o g a b m n c (No NoMemory) h.orderly h.usable h.told h.ready h.now ok f stepped

-- the same of what the machine makes of the command
module _ {S : Type 0} {g : Ghosts S} {a b : S} {m : Memory} (h : IsTold g a m) (c : Command) (n : Memory) {ok : Type 0} (passes : refusal (store_state g a m).shape c ≡ None)
    (done : HasDone (g.site a) (table_alone (g.table a)) (table_alone (g.table b)) (g.area a) (g.area b) (known n) (StoreLeaves g a) (StoreLeaves g b) ok (disks_next (store_state g a m).disks (store_state g a m).shape c)) where
  pub taken_accepted : (r : Reply) → r ≡ reply_to (store_state g a m).disks (store_state g a m).shape c → ok → shape_in (g.site a) (table_alone (g.table b)) (known n) ≡ (step (store_state g a m) c).after.shape → StoreTakes g c a m b n (Ok r)
  taken_accepted r replied fine shaped = done_by h c n (step_accepted (store_state g a m) c passes) done r replied fine shaped

  pub taken_stopped : (f : Failed) → StoreTakes g c a m b n (Err f)
  taken_stopped f = stopped_by h c n (step_accepted (store_state g a m) c passes) done f
