-- What the steps of an opening tell each other: what the checks leave known, and why they stopped.
use Rattle.std.specs.Prelude.{◌≡◌, ℕ, ◌<◌, ◌≤◌, true, false, List, length, filter, Option, Some, None}
use Rattle.common_laws.specs.Lists.{In}
use Rattle.sm_base.specs.Limits.{extent_limit}
use Rattle.sm_base.specs.declared.faults.OpenFault.{OpenFault}
use Rattle.sm_base.specs.declared.faults.OpenFault.TheVariants as fault
use Rattle.sm_base.specs.Kinds.{is_image, is_log}
use Rattle.sm_base.specs.declared.names.Name.{Name}
use Rattle.sm_base.specs.declared.names.Name.TheVariants.{Mgt, Vhd, Raw, Old, Cbt, Clone, Inflate, Coalesce, Relink, Leaf}
use Rattle.sm_disk.specs.Held.{IsSettled, reads}
use Rattle.vg_layout.specs.Places.{record_extents}
use Rattle.vg_meta.specs.Changes.{applied}
use Rattle.vg_meta.specs.Tables.{VolumeTable, Row, IsTable, rows, extents_of}
use Rattle.vg_meta.specs.declared.changes.Change.TheVariants.{Remove}
use Rattle.vg_meta.specs.Roomy.{table_alone}
use Rattle.vg_volumes.specs.Sites.{Site, area_size}
use Rattle.vg_volumes.specs.Stored.{Stored}
use Rattle.vg_volumes.specs.declared.stores.Store.{Ghosts}
use Rattle.sm_logs.specs.Held.{log_limit}
use Rattle.sm_machine.specs.Shapes.{image_limit}
use Rattle.sm_standing.specs.Checks.{images, is_lost, is_misnamed, has_uuid}
use Rattle.sm_standing.specs.Entries.{are_past, folding, is_there, making, second}
use Rattle.sm_standing.specs.Plain.{IsKnown, IsPlain, IsSimple}
use Rattle.vhd_chain.specs.declared.rows.TreeRow.{TreeRow}
use Rattle.sm_checks.specs.Links.{HasLink}

-- no more volumes are logs than memory has room for
abbrev pub HasFewLogs : VolumeTable → Type 0
HasFewLogs t = length (filter (λ (r : Row). is_log r.name) t.volumes) ≤ log_limit

-- what is known of the table in memory once the checks passed, where no fork and no enlargement is under way: new volumes may be
-- among the others
pub record IsChecked (s : Site) (t : VolumeTable) : Type 0 where
  pub table : IsTable s.count t
  pub few_extents : s.count ≤ extent_limit
  pub plain : IsPlain t
  pub few_images : length (images t) ≤ image_limit
  pub few_logs : HasFewLogs t
  pub record_volume : length (extents_of (rows t Mgt)) ≡ record_extents s.geometry.extent

-- and where no leaf is being folded: beside images, new ones among them, and the volume of records at most one entry says that a disk
-- is being forked or that an image is being enlarged, and at most one that an image is being copied or that its children are linked
pub record IsEndable (s : Site) (t : VolumeTable) : Type 0 where
  pub table : IsTable s.count t
  pub few_extents : s.count ≤ extent_limit
  pub known : IsKnown t
  pub one_entry : second (making t) ≡ None
  pub one_folding : second (folding t) ≡ None
  pub at_stage : (r : Row) → In r t.volumes → is_lost t r ≡ false
  pub named : (r : Row) → In r t.volumes → is_misnamed t r ≡ false
  pub few_images : length (images t) ≤ image_limit
  pub few_logs : HasFewLogs t
  pub record_volume : length (extents_of (rows t Mgt)) ≡ record_extents s.geometry.extent

-- what is known of the table of a store before what is under way is ended
abbrev pub IsEndableStore : {S : Type 0} → Ghosts S → S → Type 0
IsEndableStore g s = IsEndable (g.site s) (table_alone (g.table s))

-- what is known of the table in memory before a fork or an enlargement is undone, once the checks by the table passed: the volumes
-- are as above, and beside them at most one says that a disk is being forked, or that an image is being enlarged, and that stands
-- at a stage of its work
pub record IsUndoable (s : Site) (t : VolumeTable) : Type 0 where
  pub table : IsTable s.count t
  pub few_extents : s.count ≤ extent_limit
  pub simple : IsSimple t
  pub one_entry : second (making t) ≡ None
  pub at_stage : (r : Row) → In r t.volumes → is_lost t r ≡ false
  pub few_images : length (images t) ≤ image_limit
  pub few_logs : HasFewLogs t
  pub record_volume : length (extents_of (rows t Mgt)) ≡ record_extents s.geometry.extent

-- a table in which children of an image are being linked to its parent, and nothing else is under way
pub record IsLinking (s : Site) (t : VolumeTable) (child parent : List ℕ) : Type 0 where
  pub table : IsTable s.count t
  pub entry : Row
  pub there : rows t (Relink child parent) ≡ Some entry
  pub rest : IsChecked s (applied t (Remove (Relink child parent)))
  pub past : (n : Name) → is_image n ≡ true → is_there t n ≡ true → are_past t n ≡ true

-- a table in which that is under way at most, beside these images
abbrev pub IsLinkable : Site → VolumeTable → List TreeRow → Option Name → Type 0
IsLinkable s t xs None = Unit {0}
IsLinkable s t xs (Some (Relink child parent)) = IsLinking s t child parent × (n : Name) × HasLink xs (Vhd child) n × (has_uuid parent n ≡ true)
IsLinkable s t xs (Some Mgt) = ⊥
IsLinkable s t xs (Some (Vhd u)) = ⊥
IsLinkable s t xs (Some (Raw u)) = ⊥
IsLinkable s t xs (Some (Old u)) = ⊥
IsLinkable s t xs (Some (Cbt u)) = ⊥
IsLinkable s t xs (Some (Clone disk base twin)) = ⊥
IsLinkable s t xs (Some (Inflate image extents)) = ⊥
IsLinkable s t xs (Some (Coalesce child parent)) = ⊥
IsLinkable s t xs (Some (Leaf leaf parent)) = ⊥

-- of a store: what is known of its table once what was under way is ended or undone
abbrev pub IsCheckedStore : {S : Type 0} → Ghosts S → S → Type 0
IsCheckedStore g s = IsChecked (g.site s) (table_alone (g.table s))

-- what a stop leaves while the table changes: one of these tables, and of the area, where nothing was pending, what a read gave
pub record IsLeftOf (x : Stored) (P : VolumeTable → Type 0) (t : VolumeTable) (image : ℕ → List ℕ) : Type 0 where
  pub table : P t
  pub sectors : IsSettled x.area → (p : ℕ) → p < area_size x.site → image p ≡ reads x.area p

-- what stands in a store is as it was: the table, and where nothing was pending the sectors
pub record StandsAs {S : Type 0} (g : Ghosts S) (old new : S) : Type 0 where
  pub site : g.site new ≡ g.site old
  pub table : table_alone (g.table new) ≡ table_alone (g.table old)
  pub area : g.told → IsSettled (g.area old) → g.area new ≡ g.area old

-- a fact where no call of the device failed
abbrev pub UnlessDeviceFailed : OpenFault → Type 0 → Type 0
UnlessDeviceFailed fault.Device Fact = Unit {0}
UnlessDeviceFailed (fault.Damaged place) Fact = Fact
UnlessDeviceFailed fault.NoMemory Fact = Fact
UnlessDeviceFailed fault.NotARepository Fact = Fact
UnlessDeviceFailed (fault.Unsupported version) Fact = Fact
