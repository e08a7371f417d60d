-- A command that makes all last, and changes memory alone.
use Rattle.std.proofs.Common.{◌≡◌, inl, inr, ⊎_elim, ℕ, List, sym, ap, ap₂, ◌∙◌, subst, subst₂}
use Rattle.std.proofs.Math.Path.{fun_ext}
use Rattle.sm_disk.specs.Held.{IsSettled, Keeps}
use Rattle.vg_meta.specs.Roomy.{table_alone}
use Rattle.vg_meta.specs.Tables.{VolumeTable}
use Rattle.vg_volumes.specs.Commits.{IsBefore}
use Rattle.vg_volumes.specs.Sites.{area_size}
use Rattle.vg_volumes.specs.Stored.{IsChoiceOf, stored}
use Rattle.vg_volumes.specs.declared.stores.Store.{Ghosts}
use Rattle.sm_machine.specs.Disks.{Disk}
use Rattle.sm_run.specs.Between.{IsBetween}
use Rattle.sm_standing.specs.Keeping.{IsKept}
use Rattle.sm_standing.specs.Logs.{IsLogged}
use Rattle.sm_standing.specs.Standing.{disks}
use Rattle.sm_ready.specs.Done.{HasDone}
use Rattle.sm_ready.specs.Known.{Known, known}
use Rattle.sm_ready.specs.Orderly.{IsOrderly}
use Rattle.sm_ready.specs.Ready.{IsReady}
use Rattle.sm_ready.specs.Stores.{MayShow, StoreLeaves, content_in, content_now, store_content}
use Rattle.sm_ready.specs.declared.memory.Memory.{Memory}
use Rattle.sm_ready.proofs.ChainLaws.{only_crash, wider_between}
use Rattle.sm_ready.proofs.CommitLaws.{IsSafe, ready_safe}
use Rattle.sm_ready.proofs.LeaveLaws.{left_choice}
use Rattle.sm_ready.proofs.LogLaws.{holds_ready, logged_before}
use Rattle.sm_ready.proofs.RepairLaws.{ready_synced}
use Rattle.sm_ready.proofs.TakenLaws.{IsTold}

-- what a sync leaves of a store, whether it succeeded or failed
pub record IsSynced {S : Type 0} (g : Ghosts S) (a b : S) : Type 0 where
  pub site : g.site b ≡ g.site a
  pub table : table_alone (g.table b) ≡ table_alone (g.table a)
  pub failed : g.failed b ≡ g.failed a
  pub keeps : Keeps (g.area a) (g.area b)
  pub leaves : (t : VolumeTable) (image : ℕ → List ℕ) → g.leaves b t image → g.leaves a t image

module _ {S : Type 0} {g : Ghosts S} {a b : S} {m : Memory} (h : IsTold g a m) (y : IsSynced g a b) where
  abbrev was : List Disk
  was = disks (store_content g a)

  -- a stop leaves nothing that it might not have left before
  left_before : (v : VolumeTable) (image : ℕ → List ℕ) → StoreLeaves g b v image → IsBefore (area_size (g.site a)) (table_alone (g.table a)) (g.area a) v image
  left_before v image l = ⊎_elim
      (λ k. left_choice g.told (g.site a) (table_alone (g.table a)) (g.area a) (g.leaves a) (g.failed a) h.now v image (inl (y.leaves v image k)))
      (λ w. let now = subst₂ (λ s t. IsBefore (area_size s) t (g.area b) v image) y.site y.table w.2 in
      record { table_is = now.table_is; sectors = λ p below. y.keeps.may p (image p) (now.sectors p below) }) l

  safe : IsSafe (g.site a) (table_alone (g.table a)) (g.area a) (StoreLeaves g a) was
  safe = ready_safe (g.site a) (table_alone (g.table a)) (g.area a) (known m) (StoreLeaves g a) h.orderly h.ready (λ image is. inr (h.told, h.usable, is))

  -- what it leaves is kept, and shows the disks from before
  pub synced_crash : (ds : List Disk) (v : VolumeTable) (image : ℕ → List ℕ) → StoreLeaves g b v image
      → IsKept (content_in (g.site a) v image) × IsBetween (MayShow (g.site a) (StoreLeaves g a)) was ds (disks (content_in (g.site a) v image))
  synced_crash ds v image l =
      let here = left_before v image l in
      subst (λ t. IsKept (content_in (g.site a) t image) × IsBetween (MayShow (g.site a) (StoreLeaves g a)) was ds (disks (content_in (g.site a) t image))) (sym here.table_is)
      (safe.kept image here.sectors, inl (safe.shown image here.sectors))

  -- and has the logs of memory
  synced_logged : (n : Known) → n.logs ≡ (known m).logs → (v : VolumeTable) (image : ℕ → List ℕ) → StoreLeaves g b v image → IsLogged (content_in (g.site a) v image) n.logs
  synced_logged n same v image l = subst (IsLogged (content_in (g.site a) v image)) (sym same)
      (logged_before (holds_ready (g.site a) (table_alone (g.table a)) (g.area a) (known m) h.orderly h.ready) h.orderly.table v image (left_before v image l))

  -- it failed
  pub synced_failed : (n : Known) (ok : Type 0) (ds : List Disk) → (ok → ⊥) → n.logs ≡ (known m).logs → HasDone (g.site a) (table_alone (g.table a)) (table_alone (g.table b)) (g.area a) (g.area b) n (StoreLeaves g a) (StoreLeaves g b) ok ds
  synced_failed n ok ds never same_logs = only_crash never (synced_crash ds) (synced_logged n same_logs)

  -- a read gives what it gave
  pub synced_content : content_now (g.site a) (table_alone (g.table b)) (g.area b) ≡ store_content g a
  synced_content = ap₂ (λ t image. content_in (g.site a) t image) y.table (fun_ext y.keeps.reads)

  -- all lasts, and memory is ready beside it
  pub synced : (n : Known) (ok : Type 0) (ds : List Disk) → ds ≡ was → IsSettled (g.area b) → IsReady (g.site a) (table_alone (g.table a)) (g.area b) n → n.logs ≡ (known m).logs
      → HasDone (g.site a) (table_alone (g.table a)) (table_alone (g.table b)) (g.area a) (g.area b) n (StoreLeaves g a) (StoreLeaves g b) ok ds
  synced n ok ds same settled ready same_logs = record {
    ready = λ _. subst (λ t. IsReady (g.site a) t (g.area b) n) (sym y.table) ready;
    settled = λ _. settled;
    shown = λ _. ap disks synced_content ∙ sym same;
    crash = synced_crash ds;
    logged = synced_logged n same_logs;
  }

-- what is done behind a sync is done from before it
pub behind_sync : {S : Type 0} {g : Ghosts S} {a b e : S} {m : Memory} → IsTold g a m → IsSynced g a b → (n : Known) (ok : Type 0) (ds : List Disk)
    → HasDone (g.site b) (table_alone (g.table b)) (table_alone (g.table e)) (g.area b) (g.area e) n (StoreLeaves g b) (StoreLeaves g e) ok ds
    → HasDone (g.site a) (table_alone (g.table a)) (table_alone (g.table e)) (g.area a) (g.area e) n (StoreLeaves g a) (StoreLeaves g e) ok ds
behind_sync {g = g} {a} {b} {e} h y n ok ds done =
    let at = subst (λ s. HasDone s (table_alone (g.table b)) (table_alone (g.table e)) (g.area b) (g.area e) n (StoreLeaves g b) (StoreLeaves g e) ok ds) y.site done in
    record {
      ready = at.ready;
      settled = at.settled;
      shown = at.shown;
      crash = λ v image l.
          let w = at.crash v image l in (
            w.0,
            wider_between (λ u i k. inr (h.told, h.usable, left_before h y u i k))
                (subst (λ (was : List Disk). IsBetween (MayShow (g.site a) (StoreLeaves g b)) was ds (disks (content_in (g.site a) v image))) (ap disks (synced_content h y)) w.1),
          );
      logged = at.logged;
    }

-- what is known behind a sync
pub told_behind : {S : Type 0} {g : Ghosts S} {a b : S} {m : Memory} → IsTold g a m → IsSynced g a b → IsSettled (g.area b) → ((v : VolumeTable) (image : ℕ → List ℕ) → g.leaves b v image → IsChoiceOf (stored g b) v image) → IsTold g b m
told_behind {g = g} {a} {b} {m} h y settled choice = record {
  orderly = subst₂ (λ s t. IsOrderly s t (known m)) (sym y.site) (sym y.table) h.orderly;
  usable = y.failed ∙ h.usable;
  told = h.told;
  ready = subst₂ (λ s t. IsReady s t (g.area b) (known m)) (sym y.site) (sym y.table) (ready_synced (g.site a) (table_alone (g.table a)) (g.area a) (g.area b) (known m) h.ready y.keeps settled);
  now = choice;
}

pub behind_content : {S : Type 0} {g : Ghosts S} {a b : S} {m : Memory} → IsTold g a m → IsSynced g a b → store_content g b ≡ store_content g a
behind_content {g = g} {a} {b} h y = ap (λ s. content_now s (table_alone (g.table b)) (g.area b)) y.site ∙ synced_content h y
