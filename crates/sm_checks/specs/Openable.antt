-- What the checks by the table leave known of it, and why an opening stops.
use Rattle.std.specs.Prelude.{◌≡◌, ℕ, ◌≤◌, false, length, Option, Some, None}
use Rattle.common_laws.specs.Lists.{In}
use Rattle.sm_base.specs.Limits.{extent_limit}
use Rattle.sm_base.specs.declared.faults.OpenFault.{OpenFault}
use Rattle.sm_base.specs.declared.faults.OpenFault.TheVariants as fault
use Rattle.sm_base.specs.declared.faults.Place.{Place}
use Rattle.sm_base.specs.declared.names.Name.TheVariants.{Mgt}
use Rattle.sm_disk.specs.Held.{Rose}
use Rattle.vg_layout.specs.Places.{record_extents}
use Rattle.vg_meta.specs.Tables.{VolumeTable, Row, IsTable, rows, extents_of}
use Rattle.vg_meta.specs.Roomy.{table_alone}
use Rattle.vg_volumes.specs.Sites.{Site}
use Rattle.vg_volumes.specs.declared.stores.Store.{Ghosts}
use Rattle.sm_machine.specs.Shapes.{image_limit}
use Rattle.sm_standing.specs.Contents.{Content}
use Rattle.sm_standing.specs.Checks.{images, is_lost, is_misnamed, is_orphaned, first_fault}
use Rattle.sm_standing.specs.Entries.{folding, making, second}

-- what is known of the table in memory once the checks by the table passed: at most one entry of each group is there, each stands at
-- a stage of its work, and each old leaf belongs to one
pub record IsOpenable (s : Site) (t : VolumeTable) : Type 0 where
  pub table : IsTable s.count t
  pub few_extents : s.count ≤ extent_limit
  pub owned : (r : Row) → In r t.volumes → is_orphaned t r.name ≡ false
  pub one_entry : second (making t) ≡ None
  pub one_folding : second (folding t) ≡ None
  pub at_stage : (r : Row) → In r t.volumes → is_lost t r ≡ false
  pub named : (r : Row) → In r t.volumes → is_misnamed t r ≡ false
  pub few_images : length (images t) ≤ image_limit
  pub record_volume : length (extents_of (rows t Mgt)) ≡ record_extents s.geometry.extent

-- what is known of the table of a store once the checks by the table passed
abbrev pub IsOpenableStore : {S : Type 0} → Ghosts S → S → Type 0
IsOpenableStore g s = IsOpenable (g.site s) (table_alone (g.table s))

-- why a step of an opening stopped: the place that its checks name, where the content is told; a fault of the device; memory
abbrev pub IsStoppedBy : Type 0 → Option Place → ℕ → ℕ → OpenFault → Type 0
IsStoppedBy told first before now (fault.Damaged place) = told → first ≡ Some place
IsStoppedBy told first before now fault.Device = Rose before now
IsStoppedBy told first before now fault.NoMemory = Unit {0}
IsStoppedBy told first before now fault.NotARepository = ⊥
IsStoppedBy told first before now (fault.Unsupported version) = ⊥

-- why the checks in front of that of the logs stopped: the first place that is damaged, where the content is told; a fault of the device; memory
abbrev pub IsCheckStopped : Type 0 → Content → ℕ → ℕ → OpenFault → Type 0
IsCheckStopped told c before now e = IsStoppedBy told (first_fault c) before now e
