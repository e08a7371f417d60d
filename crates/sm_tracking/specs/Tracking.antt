-- What a call that changes logs, and no disk, did to a store and to the memory beside it.
use Rattle.std.specs.Prelude.{◌≡◌, ◌⊎◌, ℕ, ◌<◌, true, false, List, length, Option, Some}
use Rattle.sm_base.specs.declared.names.Name.TheVariants.{Cbt}
use Rattle.sm_disk.specs.Held.{IsSettled}
use Rattle.vg_extents.specs.Fits.{AreLeastFree}
use Rattle.vg_meta.specs.Changes.{applied}
use Rattle.vg_meta.specs.Roomy.{table_alone}
use Rattle.vg_meta.specs.Tables.{VolumeTable}
use Rattle.vg_meta.specs.declared.changes.Change.TheVariants.{Create, Mark}
use Rattle.vg_meta.specs.declared.changes.Tag.TheVariants.{Fresh}
use Rattle.vg_volumes.specs.Sites.{Site}
use Rattle.vg_volumes.specs.declared.stores.Store.{Ghosts}
use Rattle.sm_log.specs.Logs.{Log, bit, log_of}
use Rattle.sm_machine.specs.Refusals.{log_room}
use Rattle.sm_standing.specs.Contents.{Content}
use Rattle.sm_standing.specs.Keeping.{IsKept}
use Rattle.sm_standing.specs.Logs.{IsLogOf}
use Rattle.sm_standing.specs.Standing.{disks}
use Rattle.sm_ready.specs.Does.{store_shape}
use Rattle.sm_ready.specs.Sessions.{IsReadyStore}
use Rattle.sm_ready.specs.Stores.{MayShow, StoreLeaves, content_in, store_content}
use Rattle.sm_ready.specs.declared.memory.Memory.{Memory}

-- ---- which logs a stop may leave

-- a log between two: it has the since of the one from after, each bit is as it was before or as it is after, and all else is as it was before
pub record IsLogBetween (old new l : Log) : Type 0 where
  pub disk : l.disk ≡ old.disk
  pub extents : l.extents ≡ old.extents
  pub tag : l.tag ≡ old.tag
  pub since : l.since ≡ new.since
  pub pieces : length l.bits ≡ length old.bits
  pub bits : (k : ℕ) → k < length old.bits → (bit l.bits k ≡ bit old.bits k) ⊎ (bit l.bits k ≡ bit new.bits k)

abbrev pub AreBetween : Option Log → Option Log → Option Log → Type 0
AreBetween (Some old) (Some new) (Some l) = IsLogBetween old new l
AreBetween _ _ _ = ⊥

-- of each disk a content has the log from before, the one from after, or one between
abbrev pub IsLoggedBetween : Content → List Log → List Log → Type 0
IsLoggedBetween c old new = (u : List ℕ) → (o : Option Log) × IsLogOf c u o × ((o ≡ log_of u old) ⊎ ((o ≡ log_of u new) ⊎ AreBetween (log_of u old) (log_of u new) o))

-- of what a stop leaves of a split: the disk's log is the one from before, or the snapshot's, the twin's, stands
abbrev pub IsSplitInOrder : Content → List ℕ → List ℕ → List Log → List Log → Type 0
IsSplitInOrder c u twin old new = IsLogOf c u (log_of u old) ⊎ IsLogOf c twin (log_of twin new)

-- ---- where a log lies

-- the table with the volume of a disk's log, made as new, and then not new
abbrev pub table_logged : VolumeTable → List ℕ → List ℕ → VolumeTable
table_logged t u extents = applied (applied t (Create (Cbt u) true extents)) (Mark (Cbt u) Fresh false)

-- the table has the volume of a disk's log beside those from before, on so many extents that were free: the least of them, rising
pub record IsLogOnLeast (s : Site) (t : VolumeTable) (u : List ℕ) (count : ℕ) (next : VolumeTable) : Type 0 where
  pub extents : List ℕ
  pub least : AreLeastFree s.count count t extents
  pub made : next ≡ table_logged t u extents

-- a call left a new log of a disk in the table of a store, on the least extents that were free, as many as the machine says
abbrev pub HasLogOnLeast : {S : Type 0} → Ghosts S → S → Memory → S → List ℕ → Type 0
HasLogOnLeast g old m new u = IsLogOnLeast (g.site old) (table_alone (g.table old)) u (log_room (store_shape g old m) u) (table_alone (g.table new))

-- ---- a call

-- A call that is to change the logs of memory into these: the disks stay. Where it succeeded the sectors are as memory says, and nothing is
-- pending where nothing was. Whatever a stop leaves is kept, shows disks that it might have shown before, and has logs between those of
-- memory before the call and these.
pub record HasChangedLogs {S : Type 0} (g : Ghosts S) (old : S) (m : Memory) (new : S) (n : Memory) (ls : List Log) (ok : Type 0) : Type 0 where
  pub ready : ok → IsReadyStore g new n
  pub settled : ok → IsSettled (g.area old) → IsSettled (g.area new)
  pub shown : disks (store_content g new) ≡ disks (store_content g old)
  pub crash : (v : VolumeTable) (image : ℕ → List ℕ) → StoreLeaves g new v image
      → IsKept (content_in (g.site old) v image) × MayShow (g.site old) (StoreLeaves g old) (disks (content_in (g.site old) v image))
  pub logged : (v : VolumeTable) (image : ℕ → List ℕ) → StoreLeaves g new v image → IsLoggedBetween (content_in (g.site old) v image) m.logs ls
