-- A disk that is imported: what is asked at its begin, what stands in table, memory and sectors until its end, and what a stop leaves of
-- that (this project's own).
use Rattle.std.specs.Prelude.{◌≡◌, ◌⊎◌, ℕ, ◌+◌, ◌-◌, ◌≤◌, true, false, List, Some, IsSome, length}
use Rattle.uuid.specs.Parts.{is_nil_bytes}
use Rattle.sm_base.specs.Names.{is_base}
use Rattle.sm_base.specs.Numbers.{thin}
use Rattle.sm_base.specs.declared.names.Name.{Name}
use Rattle.sm_base.specs.declared.names.Name.TheVariants.{Vhd}
use Rattle.sm_disk.specs.Held.{reads}
use Rattle.vg_meta.specs.Changes.{AreFree, applied, without}
use Rattle.vg_meta.specs.Roomy.{table_alone}
use Rattle.vg_meta.specs.Tables.{Row, VolumeTable, extents_of, rows}
use Rattle.vg_meta.specs.declared.changes.Change.{Change}
use Rattle.vg_meta.specs.declared.changes.Change.TheVariants.{Create, Grow}
use Rattle.vg_extents.specs.Fits.{AreLeastFree}
use Rattle.vg_volumes.specs.Sites.{Site}
use Rattle.vg_volumes.specs.Stored.{Stored}
use Rattle.vg_volumes.specs.Volumes.{KeepsElsewhere}
use Rattle.vg_volumes.specs.declared.stores.Store.{Ghosts}
use Rattle.common_laws.specs.Lists.{In}
use Rattle.sm_machine.specs.Disks.{Disk}
use Rattle.sm_machine.specs.Shapes.{image_limit}
use Rattle.sm_mgt.specs.Places.{place_for}
use Rattle.sm_standing.specs.Standing.{disks}
use Rattle.sm_ready.specs.Done.{HasDone, at_rest}
use Rattle.sm_ready.specs.Frames.{HasCommits, HasTrueImages, IsNoLower}
use Rattle.sm_ready.specs.Known.{Known, has_image, known}
use Rattle.sm_ready.specs.Ready.{HasNoStray, IsReady}
use Rattle.sm_ready.specs.Sessions.{HasAttachmentRoom, HasRows, HasTreeRoom, IsOrderlyStore}
use Rattle.sm_ready.specs.Stores.{Leaving, StoreLeaves, content_now, store_content}
use Rattle.sm_ready.specs.declared.memory.Memory.{Memory}
use Rattle.sm_calls.specs.Calls.{IsSoFar, ShowsBetween}

-- a new disk may have the UUID: it is not reserved, no image has it, and one image more may be there
pub record MayImport (m : Known) (u : List ℕ) : Type 0 where
  pub not_nil : is_nil_bytes u ≡ false
  pub not_base : is_base u ≡ false
  pub absent : has_image m.rows u ≡ false
  pub few : length m.rows + 1 ≤ image_limit

-- the volume of this name is new and visible
pub record HasNewVolume (t : VolumeTable) (n : Name) : Type 0 where
  pub row : Row
  pub there : rows t n ≡ Some row
  pub fresh : row.fresh ≡ true
  pub visible : row.hidden ≡ false

-- A disk of this UUID is imported: its volume is new, and no other is; but for that the session is as between two steps. No image has the
-- UUID yet, and there is a place for its record.
pub record IsImporting {S : Type 0} (g : Ghosts S) (s : S) (m : Memory) (u : List ℕ) : Type 0 where
  pub usable : g.failed s ≡ false
  pub orderly : IsOrderlyStore g s m
  pub volume : HasNewVolume (table_alone (g.table s)) (Vhd u)
  pub only_new : (r : Row) → In r (table_alone (g.table s)).volumes → r.fresh ≡ true → r.name ≡ Vhd u
  pub no_stray : HasNoStray (known m)
  pub may : MayImport (known m) u
  pub place : IsSome (place_for m.records u)
  pub true_images : HasTrueImages g s m
  pub rows : HasRows (g.table s)
  pub tree_room : HasTreeRoom m
  pub attachment_room : HasAttachmentRoom m

-- ---- the sectors

-- what a read gives is what memory says, nothing is pending but in the volume of this name, and a read gives these disks
pub record IsFilling (m : Known) (n : Name) (ds : List Disk) (x : Stored) : Type 0 where
  pub ready : IsReady x.site x.table (at_rest (reads x.area)) m
  pub beside : KeepsElsewhere x.site.geometry.extent (extents_of (rows x.table n)) (at_rest (reads x.area)) x.area
  pub shown : disks (content_now x.site x.table x.area) ≡ ds

-- what is kept, shows the disks that a store had, and has the logs of memory
abbrev pub ShowsStill : {S : Type 0} → Ghosts S → Memory → S → Leaving
ShowsStill g m a = ShowsBetween (g.site a) (StoreLeaves g a) (disks (store_content g a)) (disks (store_content g a)) (known m).logs

-- From a store on a disk of this UUID was imported: whatever a stop leaves is kept and shows the disks from before.
pub record ImportsSince {S : Type 0} (g : Ghosts S) (u : List ℕ) (m : Memory) (a s : S) : Type 0 where
  pub usable : g.failed a ≡ false
  pub so_far : IsSoFar g (ShowsStill g m a) (IsFilling (known m) (Vhd u) (disks (store_content g a))) a s

-- whatever a stop of the later store leaves is kept, shows the disks that the earlier one had, and has the logs of memory
abbrev pub LeavesStill : {S : Type 0} → Ghosts S → Memory → S → S → Type 0
LeavesStill g m a s = g.told → (t : VolumeTable) (image : ℕ → List ℕ) → StoreLeaves g s t image → ShowsStill g m a t image

-- since whatever store the import began, it goes on
abbrev pub GoesOnImporting : {S : Type 0} → Ghosts S → List ℕ → Memory → S → S → Type 0
GoesOnImporting {S} g u m old new = (a : S) → ImportsSince g u m a old → ImportsSince g u m a new

-- since whatever store the import began, a stop leaves the disks from before
abbrev pub StopsImporting : {S : Type 0} → Ghosts S → List ℕ → Memory → S → S → Type 0
StopsImporting {S} g u m old new = (a : S) → ImportsSince g u m a old → LeavesStill g m a new

-- since whatever store the import began, its end leaves the disks from before, and where it succeeds (ok) the store is ready for them
abbrev pub EndsImporting : {S : Type 0} → Ghosts S → List ℕ → Memory → S → S → Type 0 → Type 0
EndsImporting {S} g u m old new ok = (a : S) → ImportsSince g u m a old → g.told
    → HasDone (g.site a) (table_alone (g.table a)) (table_alone (g.table new)) (g.area a) (g.area new) (known m) (StoreLeaves g a) (StoreLeaves g new) ok (disks (store_content g a))

-- ---- the sequence number

-- the sequence number of a later store is no lower, and so is each that a stop leaves of it, but for what a stop might have left of the earlier one
pub record GoesNoLower {S : Type 0} (g : Ghosts S) (a s : S) : Type 0 where
  pub now : IsNoLower (table_alone (g.table a)) (table_alone (g.table s))
  pub left : g.told → (t : VolumeTable) (image : ℕ → List ℕ) → StoreLeaves g s t image → StoreLeaves g a t image ⊎ IsNoLower (table_alone (g.table a)) t

-- ---- the table

-- the table has one volume more: that of this name, new, on so many extents, the least that were free
pub record IsBegun (count need : ℕ) (t : VolumeTable) (n : Name) (next : VolumeTable) : Type 0 where
  pub extents : List ℕ
  pub least : AreLeastFree count need t extents
  pub made : next ≡ applied t (Create n true extents)

-- the volume of this name got so many extents more: the least that were free
pub record IsGrown (count more : ℕ) (t : VolumeTable) (n : Name) (next : VolumeTable) : Type 0 where
  pub extents : List ℕ
  pub least : AreLeastFree count more t extents
  pub made : next ≡ applied t (Grow n extents)

-- a change that gives the volume of this name so many extents more: the least that are free
pub record IsGrowth (count : ℕ) (t : VolumeTable) (n : Name) (more : ℕ) (growth : Change) : Type 0 where
  pub extents : List ℕ
  pub is : growth ≡ Grow n extents
  pub least : AreLeastFree count more t extents
  pub extents_free : AreFree count t.volumes extents

-- the volumes beside this one are the same
abbrev pub SameBeside : Name → VolumeTable → VolumeTable → Type 0
SameBeside n t next = without n next.volumes ≡ without n t.volumes

-- how many extents the volume of this name has
abbrev pub extents_of_volume : VolumeTable → Name → ℕ
extents_of_volume t n = length (extents_of (rows t n))

-- the volume of this name lost no extents, and each commit brought it one at least
pub record GrowsEachCommit (n : Name) (t next : VolumeTable) : Type 0 where
  pub longer : extents_of_volume t n ≤ extents_of_volume next n
  pub few : HasCommits (extents_of_volume next n - extents_of_volume t n) t next

-- the extents of an image with so many slots
abbrev pub thin_in : Site → ℕ → ℕ
thin_in s slots = thin s.geometry.extent s.geometry.block s.geometry.entries slots
