-- A sync leaves a session between two steps, and whatever a stop leaves of work on a volume that is no log has the logs of memory.
use Rattle.std.proofs.Common.{◌≡◌, ◌≢◌, ℕ, List, ◌∙◌, sym, refl, subst, subst₂}
use Rattle.sm_base.specs.declared.names.Name.{Name}
use Rattle.sm_base.specs.declared.names.Name.TheVariants.{Cbt}
use Rattle.sm_disk.specs.Held.{Keeps}
use Rattle.vg_meta.specs.Tables.{IsTable, VolumeTable}
use Rattle.vg_volumes.specs.Stored.{IsChoiceOf, Stays, WorksOn, stored}
use Rattle.vg_volumes.specs.declared.stores.Store.{Ghosts}
use Rattle.sm_standing.specs.Logs.{IsLogged}
use Rattle.sm_ready.specs.Framing.{IsBetweenSteps}
use Rattle.sm_ready.specs.Known.{Known, known}
use Rattle.sm_ready.specs.Orderly.{IsOrderly}
use Rattle.sm_ready.specs.Ready.{IsTidy}
use Rattle.sm_ready.specs.Stores.{content_in}
use Rattle.sm_ready.specs.declared.memory.Memory.{Memory}
use Rattle.sm_ready.proofs.FrameLaws.{true_stays}
use Rattle.sm_ready.proofs.LogStores.{logs_choice, logs_told, logs_work}
use Rattle.sm_ready.proofs.RoomLaws.{rows_stays}
use Rattle.sm_ready.proofs.TakenLaws.{IsTold}

pub between_synced : {S : Type 0} {g : Ghosts S} {a b : S} (m : Memory) → Stays g a b → (g.told → Keeps (g.area a) (g.area b)) → IsBetweenSteps g a m → IsBetweenSteps g b m
between_synced {g = g} m stays keeps i = record {
  usable = stays.failed ∙ i.usable;
  orderly = subst₂ (λ s t. IsOrderly s t (known m)) (sym stays.site) (sym stays.table) i.orderly;
  tidy = subst (λ t. IsTidy t (known m)) (sym stays.table) i.tidy;
  true_images = true_stays g m m stays.site stays.table refl keeps i.true_images;
  rows = rows_stays stays i.rows;
  tree_room = i.tree_room;
  attachment_room = i.attachment_room;
}

pub logged_work : {S : Type 0} {g : Ghosts S} {a b : S} {m : Memory} {n : Name} → IsTold g a m → WorksOn g n a b → ((u : List ℕ) → Cbt u ≢ n) → (k : Known) → k.logs ≡ (known m).logs
    → (v : VolumeTable) (image : ℕ → List ℕ) → IsChoiceOf (stored g b) v image → IsLogged (content_in (g.site a) v image) k.logs
logged_work {g = g} {a} {b} {m} i works apart k same v image stop =
    subst (IsLogged (content_in (g.site a) v image)) (sym same)
    (subst (λ s. IsLogged (content_in s v image) (known m).logs) works.stays.site
    (logs_choice g b (logs_work works i.told i.orderly.table apart (logs_told i)) (subst₂ (λ s t. IsTable s.count t) (sym works.stays.site) (sym works.stays.table) i.orderly.table) v image stop))
