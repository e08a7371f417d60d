-- What a step tells of logs, as a run tells it.
use Rattle.std.proofs.Common.{◌≡◌, ◌≢◌, ◌⊎◌, inl, inr, ⊎_elim, ℕ, List, map, Result, IfOk, OnOk, Ok, Err, Some, refl, sym, ap, ◌∙◌, subst}
use Rattle.std.proofs.Math.Logic.{∥∥₁_elim}
use Rattle.std.proofs.Props.{props}
use Rattle.common_laws.specs.Lists.{In, Distinct}
use Rattle.sm_base.specs.declared.faults.Failed.{Failed}
use Rattle.sm_disk.proofs.HeldLaws.{Allows-reads}
use Rattle.sm_disk.specs.Held.{IsSettled, reads}
use Rattle.vg_meta.specs.Roomy.{table_alone}
use Rattle.vg_meta.specs.Tables.{VolumeTable}
use Rattle.vg_volumes.specs.Sites.{Site, area_size}
use Rattle.vg_volumes.specs.declared.stores.Store.{Ghosts}
use Rattle.sm_log.specs.Logs.{Log, log_of}
use Rattle.sm_log.specs.Told.{Tells}
use Rattle.sm_log.proofs.TellLaws.{tells_elsewhere}
use Rattle.sm_machine.proofs.LogDisks.{disk_snapshot, disk_there}
use Rattle.sm_machine.proofs.TrackedSnapshots.{tracked_step_keeps_snapshots}
use Rattle.sm_machine.specs.Disks.{Disk}
use Rattle.sm_machine.specs.Refusals.{is_snapshot}
use Rattle.sm_machine.specs.Runs.{HasSector}
use Rattle.sm_machine.specs.Shapes.{Shape}
use Rattle.sm_machine.specs.Steps.{State}
use Rattle.sm_machine.specs.Tracking.{AreGoodLogs, AreOfSnapshots, tracked_step}
use Rattle.sm_machine.specs.declared.commands.Command.{Command}
use Rattle.sm_machine.specs.declared.replies.Reply.{Reply}
use Rattle.sm_standing.proofs.LogLaws.{listed}
use Rattle.sm_standing.specs.Contents.{Content}
use Rattle.sm_standing.specs.Logs.{logs}
use Rattle.sm_standing.specs.Standing.{disks}
use Rattle.sm_ready.proofs.DiskShape.{are_disks}
use Rattle.sm_ready.proofs.ChainLaws.{tab}
use Rattle.sm_ready.proofs.LogRows.{log_found}
use Rattle.sm_ready.proofs.LogStores.{logs_stop, logs_told}
use Rattle.sm_ready.proofs.ShowLaws.{faces_ready, settled_ready}
use Rattle.sm_ready.proofs.TakenLaws.{IsTold}
use Rattle.sm_ready.specs.Does.{store_shape}
use Rattle.sm_ready.specs.Known.{known, shape_in}
use Rattle.sm_ready.specs.Sessions.{store_state}
use Rattle.sm_ready.specs.Stores.{Leaving, MayShow, StoreLeaves, content_in}
use Rattle.sm_ready.specs.declared.memory.Memory.{Memory}
use Rattle.sm_session.specs.Stepped.{StoreSteps}
use Rattle.sm_session.specs.Truth.{AllTruthful, AreTaken, AreTold, IsTruthful, LeavesTold, ShownBy, StandIn}
use Rattle.sm_session.proofs.PassLaws.{IsGoodState, same_carried}
use Rattle.sm_session.proofs.TagLaws.{carried_taken}
use Rattle.sm_session.proofs.TruthLaws.{logged_in}

-- where logs that are left are true of all that a stop may show, whatever it leaves is truthful
pub all_truthful : (s : Site) (leaves : Leaving) → LeavesTold s leaves → AllTruthful s leaves
all_truthful s leaves told v image left =
    let c : Content = content_in s v image in
    let stand : StandIn c (logs c) = λ l i. (listed c l i).here in
    let w = told v image left (logs c) stand in
    record {
      taken = w.0;
      told = tells_elsewhere (ShownBy s leaves) (HasSector (disks c)) (logs c) (logs c) w.1 (λ l i. i)
          (λ l k x i has. (disks c, record { table = v; image = image; left = left; shown = refl }, has));
    }

-- ---- between two steps

module _ {S : Type 0} {g : Ghosts S} {a : S} {m : Memory} (h : IsTold g a m) (good : ∥ AreGoodLogs (store_state g a m).shape ∥₁) where
  abbrev was : State
  was = store_state g a m

  -- the logs of memory stand in whatever a stop leaves, and no others
  stand_left : (v : VolumeTable) (image : ℕ → List ℕ) → StoreLeaves g a v image → StandIn (content_in (g.site a) v image) m.logs
  stand_left v image left l i = (logs_stop g a (logs_told h) h.orderly.table h.now v image left l.disk).read ∙ log_found m.logs h.orderly.logs_in_order l i

  only_left : (v : VolumeTable) (image : ℕ → List ℕ) → StoreLeaves g a v image → (ls : List Log) → StandIn (content_in (g.site a) v image) ls → (l : Log) → In l ls → In l m.logs
  only_left v image left ls stand = logged_in (content_in (g.site a) v image) m.logs ls (logs_stop g a (logs_told h) h.orderly.table h.now v image left) stand

  -- what they tell of all that a stop may show is true of what is left
  pub now_told : AreOfSnapshots was.shape → Tells (ShownBy (g.site a) (StoreLeaves g a)) m.logs → LeavesTold (g.site a) (StoreLeaves g a)
  unfolding shape_in
  now_told marked tells v image left ls stand = (
    ∥∥₁_elim h.orderly.well_formed (hlevel props) (λ w. ∥∥₁_elim good (hlevel props) (λ x.
        let now : IsGoodState was = record { well = w; are = are_disks (g.site a) (tab g a) (g.area a) (known m) h.orderly h.ready w; good = x } in
        let c : Content = content_in (g.site a) v image in
        carried_taken c (disks c) was was now now marked marked (inl (faces_ready h (disks c) (record { table = v; image = image; left = left; shown = refl })))
        (same_carried was was refl) (λ u. (log_of u m.logs, logs_stop g a (logs_told h) h.orderly.table h.now v image left u, inl refl)) ls stand)),
    tells_elsewhere (ShownBy (g.site a) (StoreLeaves g a)) (ShownBy (g.site a) (StoreLeaves g a)) m.logs ls tells (only_left v image left ls stand) (λ l k x i s. s),
  )

  -- where logs that are left are true of all that a stop may show, so are those of memory
  pub memory_tells : LeavesTold (g.site a) (StoreLeaves g a) → Tells (ShownBy (g.site a) (StoreLeaves g a)) m.logs
  memory_tells told =
      let left : StoreLeaves g a (tab g a) (reads (g.area a)) = inr (h.told, h.usable, record { table_is = refl; sectors = Allows-reads (area_size (g.site a)) (g.area a) }) in
      (told (tab g a) (reads (g.area a)) left m.logs (stand_left (tab g a) (reads (g.area a)) left)).1

  -- ---- behind an opening

  -- all lasts, with the disks and the logs of a content that is truthful
  told_opened : (c : Content) → IsSettled (g.area a) → was.disks ≡ disks c → m.logs ≡ logs c → IsTruthful c → AreOfSnapshots was.shape × Tells (ShownBy (g.site a) (StoreLeaves g a)) m.logs
  unfolding shape_in
  told_opened c settled same_disks same_logs t = (
    λ l i tagged. ∥∥₁_elim h.orderly.well_formed (hlevel props) (λ w. ∥∥₁_elim good (hlevel props) (λ x.
        let are = are_disks (g.site a) (tab g a) (g.area a) (known m) h.orderly h.ready w in
        let d = disk_there was.disks was.shape w are l.disk (x.good l i).disk in
        disk_snapshot was.disks was.shape w are d.0 l.disk d.1 d.2 ∙ t.taken l (subst (In l) same_logs i) tagged d.0 (subst (In d.0) same_disks d.1) d.2)),
    subst (Tells (ShownBy (g.site a) (StoreLeaves g a))) (sym same_logs) (tells_elsewhere (HasSector (disks c)) (ShownBy (g.site a) (StoreLeaves g a)) (logs c) (logs c) t.told (λ l i. i)
        (λ l k x i s. subst (λ (ds : List Disk). HasSector ds l.disk k x) same_disks ((settled_ready h settled s.0 s.1).sectors l.disk k x s.2))),
  )

  pub opened_told : (c : Content) → IsSettled (g.area a) → was.disks ≡ disks c → m.logs ≡ logs c → IsTruthful c → AreTold (g.site a) (StoreLeaves g a) was.shape
  unfolding shape_in
  opened_told c settled same_disks same_logs t =
      let w = told_opened c settled same_disks same_logs t in
      record { taken = w.0; tells = w.1; left = all_truthful (g.site a) (StoreLeaves g a) (now_told w.0 w.1) }

-- ---- behind a step

-- tags are those of snapshots still
pub marked_stepped : {S : Type 0} (g : Ghosts S) (a b : S) (m n : Memory) (c : Command) (y : Reply) → g.site b ≡ g.site a → ∥ AreGoodLogs (store_shape g a m) ∥₁ → IsTold g a m → AreOfSnapshots (store_shape g a m) → StoreSteps g c a m b n (Ok y)
    → AreOfSnapshots (store_shape g b n)
marked_stepped g a b m n c y site good h marked t =
    let σ : State = store_state g a m in
    let shaped : (τ : State) → store_shape g b n ≡ τ.shape → AreOfSnapshots τ.shape → AreOfSnapshots (store_shape g b n) = λ τ e. subst AreOfSnapshots (sym e) in
    ⊎_elim
    (λ poor. subst AreOfSnapshots (sym (ap (λ (s : Site). shape_in s (tab g b) (known n)) site ∙ ap (λ (z : State). z.shape) poor.1)) marked)
    (λ whole. subst AreOfSnapshots (sym (ap (λ (s : Site). shape_in s (tab g b) (known n)) site ∙ ap (λ (z : State). z.shape) whole.1))
    (λ l i tagged. ∥∥₁_elim h.orderly.well_formed (hlevel props) (λ w. ∥∥₁_elim good (hlevel props) (λ x. tracked_step_keeps_snapshots σ c w x marked l i tagged)))) t.reply

-- what a step that came back well leaves of what logs tell
pub told_stepped : {S : Type 0} (g : Ghosts S) (a b : S) (m n : Memory) (c : Command) (y : Reply) → g.site b ≡ g.site a → ∥ AreGoodLogs (store_shape g a m) ∥₁ → IsTold g a m → IsTold g b n → ∥ AreGoodLogs (store_shape g b n) ∥₁
    → AreTold (g.site a) (StoreLeaves g a) (store_shape g a m) → StoreSteps g c a m b n (Ok y) → AreTold (g.site b) (StoreLeaves g b) (store_shape g b n)
unfolding shape_in
told_stepped g a b m n c y site good h later still told t =
    let leaves : LeavesTold (g.site b) (StoreLeaves g b) = subst (λ (s : Site). LeavesTold s (StoreLeaves g b)) (sym site) (t.truthful told) in
    record { taken = marked_stepped g a b m n c y site good h told.taken t; tells = memory_tells later still leaves; left = all_truthful (g.site b) (StoreLeaves g b) leaves }

-- whatever a step leaves is truthful
pub truthful_stepped : {S : Type 0} (g : Ghosts S) (a b : S) (m n : Memory) (c : Command) (r : Result Reply Failed) → g.site b ≡ g.site a → AreTold (g.site a) (StoreLeaves g a) (store_shape g a m) → StoreSteps g c a m b n r → AllTruthful (g.site b) (StoreLeaves g b)
truthful_stepped g a b m n c r site told t = all_truthful (g.site b) (StoreLeaves g b) (subst (λ (s : Site). LeavesTold s (StoreLeaves g b)) (sym site) (t.truthful told))
