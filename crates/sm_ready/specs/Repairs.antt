-- The repairs of an opening, for images of any kind: memory at rest beside a store, and so again behind each repair; the
-- volumes that are new, and the records of no disk.
use Rattle.std.specs.Prelude.{◌≡◌, ◌⊎◌, ℕ, true, false, List, length, Option, Some, None, is_some}
use Rattle.std.specs.List.{slice_get}
use Rattle.sm_base.specs.declared.names.Name.{Name}
use Rattle.sm_machine.specs.Operations.{Idle}
use Rattle.sm_disk.specs.Held.{Held, IsSettled, May}
use Rattle.sm_disk.specs.Sectors.{zeros}
use Rattle.vg_meta.specs.Tables.{IsTable, VolumeTable, Row, rows}
use Rattle.vg_volumes.specs.Stored.{Leaves, Stored, stored}
use Rattle.vg_volumes.specs.declared.stores.Store.{Ghosts}
use Rattle.sm_record.specs.declared.records.Record.{Record}
use Rattle.sm_standing.specs.Contents.{Content}
use Rattle.sm_standing.specs.Images.{image_of}
use Rattle.sm_standing.specs.Keeping.{IsKept}
use Rattle.sm_standing.specs.LogChecks.{HasLogsOf}
use Rattle.sm_standing.specs.Standing.{standing_volume, disks}
use Rattle.sm_ready.specs.Known.{Known}
use Rattle.sm_ready.specs.Orderly.{IsOrderly}
use Rattle.sm_ready.specs.Ready.{IsReady}
use Rattle.sm_ready.specs.Stores.{content_in, content_now, store_content}

-- memory is orderly and ready beside a store in which nothing is pending, and the collector does nothing
pub record IsAtRest (x : Stored) (m : Known) : Type 0 where
  pub orderly : IsOrderly x.site x.table m
  pub ready : IsReady x.site x.table x.area m
  pub settled : IsSettled x.area
  pub idle : m.op ≡ Idle

-- what stands in a store
abbrev pub content_of : Stored → Content
content_of x = content_now x.site x.table x.area

-- a content is kept, has the disks of another, and its logs, and its table is one
pub record IsSame (was now : Content) : Type 0 where
  pub table : IsTable now.count now.table
  pub kept : IsKept now
  pub same_disks : disks now ≡ disks was
  pub same_logs : HasLogsOf was now

-- what was at rest with one memory is so with another, which has the same logs, and the store has the same disks, logs and images
pub record RestsAgain (old new : Stored) (before after : Known) : Type 0 where
  pub rest : IsAtRest old before → IsAtRest new after
  pub same_disks : IsAtRest old before → disks (content_of new) ≡ disks (content_of old)
  pub same_logs : after.logs ≡ before.logs
  pub logs_kept : IsAtRest old before → HasLogsOf (content_of old) (content_of new)
  pub same_images : IsAtRest old before → (n : Name) → image_of (content_of new) n ≡ image_of (content_of old) n

-- this place in memory has the record of no disk
abbrev pub IsStrayAt : VolumeTable → List (Option Record) → ℕ → Type 0
IsStrayAt t places k = (r : Record) × (slice_get places k ≡ Some (Some r)) × (is_some (standing_volume t r.uuid) ≡ false)

-- a record in this place is that of a disk
abbrev pub IsRightAt : VolumeTable → List (Option Record) → ℕ → Type 0
IsRightAt t places k = (r : Record) → slice_get places k ≡ Some (Some r) → is_some (standing_volume t r.uuid) ≡ true

-- each place is as it was, or free and had the record of no disk
pub record IsWithoutStrays (t : VolumeTable) (old new : List (Option Record)) : Type 0 where
  pub long : length new ≡ length old
  pub each : (k : ℕ) → (slice_get new k ≡ slice_get old k) ⊎ ((slice_get new k ≡ Some None) × IsStrayAt t old k)

-- at some places a stop may leave zeros, and at each place what it may have left before
abbrev pub IsZeroedAt : (ℕ → Type 0) → Held → Held → Type 0
IsZeroedAt At old new = (p : ℕ) (v : List ℕ) → May new p v → May old p v ⊎ ((v ≡ zeros) × At p)

-- the volume of this name is new
abbrev pub IsNewVolume : VolumeTable → Name → Type 0
IsNewVolume t n = (r : Row) × (rows t n ≡ Some r) × (r.fresh ≡ true)

-- whatever a stop leaves is kept and has the disks of a store from before, beside which this memory was at rest
abbrev pub LeavesSame : {S : Type 0} → Ghosts S → Known → S → S → Type 0
LeavesSame g m old new = Leaves g new (λ t image. IsAtRest (stored g old) m → IsSame (store_content g old) (content_in (g.site old) t image))
