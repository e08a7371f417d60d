-- A guest's command that changes neither disks nor shape, told as a session tells it.
use Rattle.std.proofs.Common.{◌≡◌, ◌⊎◌, inl, inr, ⊎_elim, ℕ, ◌+◌, ◌*◌, ◌^◌, ◌<◌, Bool, true, false, List, None, Ok, Err, sym, ap, ap₂, ◌∙◌, subst, arith}
use Rattle.std.specs.Prelude.{Result, IfOk, IsErr, OnOk}
use Rattle.std.proofs.Math.Path.{fun_ext}
use Rattle.std.proofs.Math.Logic.{∥∥₁_elim}
use Rattle.std.proofs.Props.{props}
use Rattle.std.proofs.lemmas.Bool.{true≢false}
use Rattle.sm_base.specs.declared.faults.Failed.{Failed}
use Rattle.sm_base.specs.declared.refusals.Refusal.TheVariants.{NoMemory}
use Rattle.sm_base.specs.declared.names.Name.TheVariants.{Mgt, Cbt}
use Rattle.sm_disk.specs.Held.{Held, Allows, Keeps, IsSettled}
use Rattle.sm_disk.proofs.HeldLaws.{Allows-keeps}
use Rattle.vg_meta.specs.Roomy.{table_alone}
use Rattle.vg_meta.specs.Tables.{VolumeTable, rows, extents_of}
use Rattle.vg_volumes.specs.Commits.{IsBefore}
use Rattle.vg_volumes.specs.Sites.{Site, area_size, volume_of}
use Rattle.vg_volumes.specs.Stored.{stored, IsChoiceOf, Stays}
use Rattle.vg_volumes.specs.declared.stores.Store.{Ghosts}
use Rattle.vg_volumes.proofs.VolumeLaws.{Keeps-volume}
use Rattle.vhd_chain.specs.Trees.{row_name}
use Rattle.vhd_volumes.proofs.SteadyLaws.{quiet_keeps}
use Rattle.sm_machine.specs.declared.commands.Command.{Command}
use Rattle.sm_machine.specs.declared.replies.Reply.{Reply}
use Rattle.sm_machine.specs.declared.replies.Reply.TheVariants.{No}
use Rattle.sm_machine.specs.Disks.{Disk}
use Rattle.sm_machine.specs.Runs.{is_accepted, is_settling}
use Rattle.sm_machine.specs.Commits.{commits, is_given_up, one_if, own_commits}
use Rattle.sm_machine.specs.Refusals.{refusal}
use Rattle.sm_machine.specs.Shapes.{Shape, risen}
use Rattle.sm_machine.specs.Steps.{State, Outcome, step, given_up, shape_after, shape_next, disks_next, accepted}
use Rattle.sm_run.specs.Between.{IsBetween}
use Rattle.sm_standing.specs.Keeping.{IsKept}
use Rattle.sm_standing.specs.Standing.{disks}
use Rattle.sm_mgt.specs.Places.{records_held}
use Rattle.sm_ready.specs.Known.{Known, known, shape_in}
use Rattle.sm_ready.specs.Orderly.{IsOrderly}
use Rattle.sm_ready.specs.Ready.{IsReady, IsBelow}
use Rattle.sm_ready.specs.Sessions.{IsOrderlyStore, IsReadyStore, state_in, store_state}
use Rattle.sm_ready.specs.Stores.{MayShow, StoreLeaves, content_in, store_content}
use Rattle.sm_ready.specs.declared.memory.Memory.{Memory}
use Rattle.sm_ready.proofs.CommitLaws.{IsSafe, ready_safe}
use Rattle.sm_ready.proofs.RestLaws.{agrees_keeps, steady_keeps}
use Rattle.sm_ready.proofs.LogLaws.{holds_ready, logged_before}
use Rattle.sm_standing.specs.Logs.{IsLogged}
use Rattle.sm_ready.proofs.TakenLaws.{step_accepted}
use Rattle.sm_ready.specs.Taken.{StoreTakes}
use Rattle.cmd_guest.specs.Taken.{answered}

-- ---- the step of a command that is not refused

-- one that gives nothing up and makes no commit keeps the number
pub shape_unnumbered : (σ : State) (c : Command) → refusal σ.shape c ≡ None → σ.shape.sequence < 2 ^ 48 → is_given_up σ.shape c ≡ false → own_commits σ.shape c ≡ 0
    → (step σ c).after.shape ≡ record (shape_after σ.shape c) { sequence = σ.shape.sequence }
unfolding accepted shape_next commits
shape_unnumbered σ c passes few keeps none =
    ap (λ (o : Outcome). o.after.shape) (step_accepted σ c passes)
    ∙ ap₂ (λ (b : Bool) (n : ℕ). let x : Shape = record (given_up b (shape_after σ.shape c)) { sequence = risen σ.shape.sequence (one_if b + n) } in x) keeps none
    ∙ ap (λ (k : ℕ). let x : Shape = record (shape_after σ.shape c) { sequence = k } in x) (omega (arith, few))

pub few_numbers : (s : Site) (t : VolumeTable) (m : Known) → IsOrderly s t m → t.sequence < 2 ^ 48
unfolding shape_in
few_numbers s t m o = ∥∥₁_elim o.well_formed (hlevel props) (λ w. let h = w.sequence in omega (arith, h))

-- ---- what is ready is so behind a sync

pub ready_keeps : (s : Site) (t : VolumeTable) (old new : Held) (m : Known) → Keeps old new → IsReady s t old m → IsReady s t new m
ready_keeps s t old new m keeps ready = record {
  firm = record {
    images = λ r i. steady_keeps s.geometry (r.extents * s.geometry.extent) (volume_of s t old (row_name r)) (volume_of s t new (row_name r)) r.image
        (Keeps-volume s.geometry.extent (extents_of (rows t (row_name r))) keeps) (ready.firm.images r i);
    quiet = λ r i still. quiet_keeps (Keeps-volume s.geometry.extent (extents_of (rows t (row_name r))) keeps) (ready.firm.quiet r i still);
    below = subst (λ (f : ℕ → List ℕ). IsBelow (content_in s t f) m.op) (sym (fun_ext keeps.reads)) ready.firm.below;
  };
  records = agrees_keeps (records_held s t old) (records_held s t new) m.places (Keeps-volume s.geometry.extent (extents_of (rows t Mgt)) keeps) ready.records;
  recorded = quiet_keeps (Keeps-volume s.geometry.extent (extents_of (rows t Mgt)) keeps) ready.recorded;
  logs = subst (λ (f : ℕ → List ℕ). IsLogged (content_in s t f) m.logs) (sym (fun_ext keeps.reads)) ready.logs;
  logged = λ v. quiet_keeps (Keeps-volume s.geometry.extent (extents_of (rows t (Cbt v))) keeps) (ready.logged v);
}

-- ---- a call that changed nothing that a read gives

module _ {S : Type 0} (g : Ghosts S) (a b : S) (m : Memory) (c : Command) (orderly : IsOrderlyStore g a m) (usable : g.failed a ≡ false) (told : g.told) (ready : IsReadyStore g a m)
    (now : (v : VolumeTable) (image : ℕ → List ℕ) → g.leaves a v image → IsChoiceOf (stored g a) v image)
    (stays : Stays g a b) (keeps : Keeps (g.area a) (g.area b)) (fewer : (v : VolumeTable) (image : ℕ → List ℕ) → g.leaves b v image → g.leaves a v image) where
  σ : State
  σ = store_state g a m

  safe : IsSafe (g.site a) (table_alone (g.table a)) (g.area a) (StoreLeaves g a) (disks (store_content g a))
  safe = ready_safe (g.site a) (table_alone (g.table a)) (g.area a) (known m) (StoreLeaves g a) orderly ready (λ image is. inr (told, usable, is))

  unchanged : state_in (g.site a) (table_alone (g.table b)) (g.area b) (known m) ≡ store_state g a m
  unchanged =
      ap (λ t. state_in (g.site a) t (g.area b) (known m)) stays.table
      ∙ ap (λ (f : ℕ → List ℕ). let x : State = record { disks = disks (content_in (g.site a) (table_alone (g.table a)) f); shape = shape_in (g.site a) (table_alone (g.table a)) (known m) } in x) (fun_ext keeps.reads)

  still : IsReady (g.site a) (table_alone (g.table b)) (g.area b) (known m)
  still = subst (λ t. IsReady (g.site a) t (g.area b) (known m)) (sym stays.table) (ready_keeps (g.site a) (table_alone (g.table a)) (g.area a) (g.area b) (known m) keeps ready)

  before : (v : VolumeTable) (image : ℕ → List ℕ) → StoreLeaves g b v image → IsBefore (area_size (g.site a)) (table_alone (g.table a)) (g.area a) v image
  before v image l = ⊎_elim (λ h. now v image (fewer v image h))
      (λ w. record { table_is = w.2.table_is ∙ stays.table; sectors = subst (λ (x : Site). Allows (area_size x) (g.area a) image) stays.site (Allows-keeps (area_size (g.site b)) image keeps w.2.sectors) }) l

  crash : (v : VolumeTable) (image : ℕ → List ℕ) → StoreLeaves g b v image
      → IsKept (content_in (g.site a) v image) × IsBetween (MayShow (g.site a) (StoreLeaves g a)) (disks (store_content g a)) ((step (store_state g a m) c).after).disks (disks (content_in (g.site a) v image))
  crash v image l =
      let here = before v image l in
      subst (λ y. IsKept (content_in (g.site a) y image) × IsBetween (MayShow (g.site a) (StoreLeaves g a)) (disks (store_content g a)) ((step (store_state g a m) c).after).disks (disks (content_in (g.site a) y image))) (sym here.table_is)
      (safe.kept image here.sectors, inl (safe.shown image here.sectors))

  logged : (v : VolumeTable) (image : ℕ → List ℕ) → StoreLeaves g b v image → IsLogged (content_in (g.site a) v image) (known m).logs
  logged v image l = logged_before (holds_ready (g.site a) (table_alone (g.table a)) (g.area a) (known m) orderly ready) orderly.table v image (before v image l)

  pub taken_keeps : (result : Result Reply Failed) → IfOk result (λ r. (r ≡ No NoMemory) ⊎ (r ≡ (step (store_state g a m) c).reply)) → (step (store_state g a m) c).after ≡ store_state g a m
      → IfOk result (λ r. is_accepted r ≡ true → is_settling c ≡ true → IsSettled (g.area b)) → StoreTakes g c a m b m result
  taken_keeps (Ok r) answer same settled = record {
    reply = ⊎_elim (λ poor. inl (poor, unchanged)) (λ is. inr (is, unchanged ∙ sym same)) answer;
    ready = still;
    settled = settled;
    crash = crash;
    logged = logged;
  }
  taken_keeps (Err f) answer same settled = record { reply = tt; ready = tt; settled = tt; crash = crash; logged = logged }

-- a command that changes neither disks nor shape leaves the state
pub whole_still : (σ : State) (c : Command) → refusal σ.shape c ≡ None → σ.shape.sequence < 2 ^ 48 → is_given_up σ.shape c ≡ false → own_commits σ.shape c ≡ 0 → disks_next σ.disks σ.shape c ≡ σ.disks → shape_after σ.shape c ≡ σ.shape
    → (step σ c).after ≡ σ
unfolding accepted
whole_still σ c passes few keeps none same_disks same_shape =
    ap₂ (λ (ds : List Disk) (sh : Shape). let x : State = record { disks = ds; shape = sh } in x)
    (ap (λ (o : Outcome). o.after.disks) (step_accepted σ c passes) ∙ same_disks)
    (shape_unnumbered σ c passes few keeps none ∙ ap (λ (sh : Shape). let x : Shape = record sh { sequence = σ.shape.sequence } in x) same_shape)

-- ---- what a call's one answer is

pub answered_if : {U Q : Type 0} (P : Reply → Type 0) (r : Reply) (result : Result U Failed) → (Q → P r) → OnOk result Q → IfOk (answered r result) P
answered_if P r (Ok x) f h = f h
answered_if P r (Err e) f h = tt

pub answered_all : {U : Type 0} (P : Reply → Type 0) (r : Reply) (result : Result U Failed) → P r → IfOk (answered r result) P
answered_all P r (Ok x) h = h
answered_all P r (Err e) h = tt

-- a call that failed answered nothing
pub err_if : {T E : Type 0} (P : T → Type 0) (result : Result T E) → IsErr result → IfOk result P
err_if P (Ok x) h = absurd (true≢false (sym h))
err_if P (Err e) h = tt
