-- What a stop leaves and shows of a store at which a command is taken.
use Rattle.std.proofs.Common.{◌≡◌, inr, ℕ, List, map, sym, ap, ◌∙◌, subst}
use Rattle.sm_disk.specs.Held.{IsSettled}
use Rattle.vg_meta.specs.Roomy.{table_alone}
use Rattle.vg_meta.specs.Tables.{VolumeTable}
use Rattle.vg_volumes.specs.Commits.{IsBefore}
use Rattle.vg_volumes.specs.Sites.{area_size}
use Rattle.vg_volumes.specs.declared.stores.Store.{Ghosts}
use Rattle.sm_machine.specs.Disks.{Disk}
use Rattle.sm_machine.specs.Runs.{face, HasSector}
use Rattle.sm_run.specs.Between.{IsSettledAs}
use Rattle.sm_standing.specs.Keeping.{IsKept}
use Rattle.sm_standing.specs.Standing.{disks}
use Rattle.sm_ready.specs.Known.{known}
use Rattle.sm_ready.specs.Sessions.{store_state}
use Rattle.sm_ready.specs.Stores.{MayShow, StoreLeaves, content_in, store_content}
use Rattle.sm_ready.specs.declared.memory.Memory.{Memory}
use Rattle.sm_ready.proofs.AlikeLaws.{faces_alike}
use Rattle.sm_ready.proofs.CommitLaws.{law_settled, ready_safe}
use Rattle.sm_ready.proofs.LeaveLaws.{left_choice}
use Rattle.sm_ready.proofs.LeftLaws.{law_left_now}
use Rattle.sm_ready.proofs.RepairLaws.{all_quiet}
use Rattle.sm_ready.proofs.TakenLaws.{IsTold}

module _ {S : Type 0} {g : Ghosts S} {a : S} {m : Memory} (h : IsTold g a m) where
  left : (v : VolumeTable) (image : ℕ → List ℕ) → StoreLeaves g a v image → IsBefore (area_size (g.site a)) (table_alone (g.table a)) (g.area a) v image
  left v image l = left_choice g.told (g.site a) (table_alone (g.table a)) (g.area a) (g.leaves a) (g.failed a) h.now v image l

  -- whatever a stop leaves is kept
  pub kept_ready : (v : VolumeTable) (image : ℕ → List ℕ) → StoreLeaves g a v image → IsKept (content_in (g.site a) v image)
  kept_ready v image l =
      let is = left v image l in
      subst (λ y. IsKept (content_in (g.site a) y image)) (sym is.table_is)
      ((ready_safe (g.site a) (table_alone (g.table a)) (g.area a) (known m) (StoreLeaves g a) h.orderly h.ready (λ i b. inr (h.told, h.usable, b))).kept image is.sectors)

  -- it shows the disks of now, but for what guests wrote
  pub faces_ready : (ds : List Disk) → MayShow (g.site a) (StoreLeaves g a) ds → map face ds ≡ map face (store_state g a m).disks
  faces_ready ds may =
      let is = left may.table may.image may.left in
      let alike = law_left_now (g.site a) (table_alone (g.table a)) (g.area a) (known m) may.image h.orderly h.ready is.sectors in
      ap (λ (x : List Disk). map face x) (may.shown ∙ ap (λ y. disks (content_in (g.site a) y may.image)) is.table_is)
      ∙ faces_alike (store_content g a) (content_in (g.site a) (table_alone (g.table a)) may.image) alike.outline alike.records

  -- where nothing is pending, these very disks
  shown_settled : IsSettled (g.area a) → (ds : List Disk) → MayShow (g.site a) (StoreLeaves g a) ds → ds ≡ (store_state g a m).disks
  shown_settled settled ds may =
      let is = left may.table may.image may.left in
      may.shown ∙ ap (λ y. disks (content_in (g.site a) y may.image)) is.table_is
      ∙ law_settled (g.site a) (table_alone (g.table a)) (g.area a) (known m) may.image h.orderly h.ready (all_quiet (g.site a) (table_alone (g.table a)) (g.area a) settled) is.sectors

  pub settled_ready : IsSettled (g.area a) → (ds : List Disk) → MayShow (g.site a) (StoreLeaves g a) ds → IsSettledAs (store_state g a m).disks ds
  settled_ready settled ds may =
      let is = shown_settled settled ds may in
      record { faces = ap (map face) is; sectors = λ u k bytes has. subst (λ (d : List Disk). HasSector d u k bytes) is has }
