-- What holds of a store and of what is in memory beside it, between two steps, and what a stop may show.
use Rattle.std.specs.Prelude.{◌≡◌, ℕ, ◌+◌, ◌≤◌, List, [], length}
use Rattle.sm_machine.specs.Operations.{Idle}
use Rattle.sm_disk.specs.Held.{Held}
use Rattle.vg_meta.specs.Roomy.{RoomyTable, table_alone}
use Rattle.vg_meta.specs.Tables.{VolumeTable}
use Rattle.vg_volumes.specs.Sites.{Site}
use Rattle.vg_volumes.specs.declared.stores.Store.{Ghosts}
use Rattle.sm_machine.specs.Shapes.{image_limit}
use Rattle.sm_machine.specs.Steps.{State}
use Rattle.sm_standing.specs.LogChecks.{IsKeptWithLogs}
use Rattle.sm_standing.specs.Standing.{disks}
use Rattle.sm_ready.specs.Known.{Known, known, shape_in}
use Rattle.sm_ready.specs.Orderly.{IsOrderly}
use Rattle.sm_ready.specs.Ready.{IsReady, IsTidy}
use Rattle.sm_ready.specs.Stores.{Leaving, content_in, content_now}
use Rattle.sm_ready.specs.declared.memory.Memory.{Memory}

-- table and memory are orderly, whatever the device holds
abbrev pub IsOrderlyStore : {S : Type 0} → Ghosts S → S → Memory → Type 0
IsOrderlyStore g s m = IsOrderly (g.site s) (table_alone (g.table s)) (known m)

-- of a store: between two commands no volume is new and no record is stray
abbrev pub IsTidyStore : {S : Type 0} → Ghosts S → S → Memory → Type 0
IsTidyStore g s m = IsTidy (table_alone (g.table s)) (known m)

-- of a store: what a read gives of images and records is what memory says
abbrev pub IsReadyStore : {S : Type 0} → Ghosts S → S → Memory → Type 0
IsReadyStore g s m = IsReady (g.site s) (table_alone (g.table s)) (g.area s) (known m)

-- the machine's state: the disks that a read gives, and the shape of what is in memory
abbrev pub state_in : Site → VolumeTable → Held → Known → State
state_in s t area m = record { disks = disks (content_now s t area); shape = shape_in s t m }

-- the disks and the shape of a store and of the memory beside it
abbrev pub store_state : {S : Type 0} → Ghosts S → S → Memory → State
store_state g s m = state_in (g.site s) (table_alone (g.table s)) (g.area s) (known m)

-- whatever a stop leaves of a store is kept, and the check of its logs passes
abbrev pub KeepsAll : Site → Leaving → Type 0
KeepsAll site leaves = (t : VolumeTable) (image : ℕ → List ℕ) → leaves t image → IsKeptWithLogs (content_in site t image)

-- the most rows that a table may come to have: those of 500 images, of 500 logs, of the volume of records, and of 4 journal entries
abbrev pub row_limit : ℕ
row_limit = 1005

-- a table may come to have all its rows without memory for them
abbrev pub HasRows : RoomyTable → Type 0
HasRows k = row_limit ≤ length (table_alone k).volumes + k.spare

-- the tree may come to have all images without memory for them
abbrev pub HasTreeRoom : Memory → Type 0
HasTreeRoom m = image_limit ≤ length m.tree.rows + m.tree.spare

-- as many disks may be attached, and as many images used, as a repository may have images
abbrev pub HasAttachmentRoom : Memory → Type 0
HasAttachmentRoom m = image_limit ≤ m.attached.room

-- the collector does nothing, and nothing is attached
pub record IsAtEase (m : Memory) : Type 0 where
  pub idle : m.operation ≡ Idle
  pub unattached : m.attached.disks ≡ []

-- the logs, the attachments and the collector's operation stay
pub record StaysInUse (old new : Memory) : Type 0 where
  pub logs : new.logs ≡ old.logs
  pub attached : new.attached ≡ old.attached
  pub operation : new.operation ≡ old.operation
