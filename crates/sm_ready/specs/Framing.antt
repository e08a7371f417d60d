-- A session between two steps, and what a step did to the store, at every return. The contract of each command that
-- writes, and of each step of the collector, begins with these, and then says what is its own.
use Rattle.std.specs.Prelude.{◌≡◌, ℕ, ◌≤◌, false, Result, Err, OnOk}
use Rattle.sm_base.specs.declared.faults.CallFault.{CallFault}
use Rattle.sm_base.specs.declared.faults.CallFault.TheVariants as fault
use Rattle.sm_disk.specs.Held.{Keeps}
use Rattle.vg_meta.specs.Roomy.{table_alone}
use Rattle.vg_volumes.specs.Stored.{Faults, Leaves}
use Rattle.vg_volumes.specs.declared.stores.Store.{Ghosts}
use Rattle.sm_ready.specs.Frames.{HasCommits, HasTrueImages, IsNoLower}
use Rattle.sm_ready.specs.Sessions.{HasAttachmentRoom, HasRows, HasTreeRoom, IsOrderlyStore, IsTidyStore}
use Rattle.sm_ready.specs.declared.memory.Memory.{Memory}

-- Commits may be made; table and memory are orderly, and nothing is left of a command that was cut short; each image in memory is
-- true of its volume; and there is room for all rows of the table, all images of the tree and all attachments.
pub record IsBetweenSteps {S : Type 0} (g : Ghosts S) (s : S) (m : Memory) : Type 0 where
  pub usable : g.failed s ≡ false
  pub orderly : IsOrderlyStore g s m
  pub tidy : IsTidyStore g s m
  pub true_images : HasTrueImages g s m
  pub rows : HasRows (g.table s)
  pub tree_room : HasTreeRoom m
  pub attachment_room : HasAttachmentRoom m

-- The site stays, the count of faults never falls, what is beside the store is kept, and the sequence number is no lower and was raised
-- at most by so many, in the table and in each table that a stop may leave.
pub record StepsOn {S : Type 0} (g : Ghosts S) (most : ℕ) (old new : S) : Type 0 where
  pub site : g.site new ≡ g.site old
  pub counts : g.faults old ≤ g.faults new
  pub beside : g.told → Keeps (g.beside old) (g.beside new)
  pub few : HasCommits most (table_alone (g.table old)) (table_alone (g.table new))
  pub few_left : Leaves g new (λ t image. HasCommits most (table_alone (g.table old)) t)
  pub no_lower : IsNoLower (table_alone (g.table old)) (table_alone (g.table new))
  pub no_lower_left : Leaves g new (λ t image. IsNoLower (table_alone (g.table old)) t)

-- of a call that may want memory: it fails by the device only where the device had a fault, and else the device had none
abbrev pub CountsDevice : {S : Type 0} → Ghosts S → {T : Type 0} → Result T CallFault → S → S → Type 0
CountsDevice g result old new = (result ≡ Err fault.Device → Faults g old new)
    × OnOk result (g.faults new ≡ g.faults old) × (result ≡ Err fault.NoMemory → g.faults new ≡ g.faults old)
