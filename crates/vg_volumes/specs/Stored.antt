-- What a store holds, and what a call or several did to it, over the whole dictionary of the trait. A store of the
-- volume group tells nine facts; here they are one state and six relations, so that a contract names the store alone.
use Rattle.std.specs.Prelude.{◌≡◌, ◌≤◌, ℕ, true, false, List, Result}
use Rattle.sm_base.specs.declared.names.Name.{Name}
use Rattle.sm_disk.specs.Held.{Held, SameHeld, Keeps, IsCounted, IsSettled, Rose}
use Rattle.vg_meta.specs.Tables.{VolumeTable, rows, extents_of}
use Rattle.vg_meta.specs.Roomy.{table_alone}
use Rattle.vg_meta.specs.declared.changes.Change.{Change}
use Rattle.vg_meta.specs.Changes.{Permits, HasRoom, applied}
use Rattle.vg_volumes.specs.Commits.{IsBefore, IsEither}
use Rattle.vg_volumes.specs.Sites.{Site, area_size, size_of, volume_of, Fits, NoLessRoom, RoomAfter}
use Rattle.vg_volumes.specs.Volumes.{SameElsewhere, KeepsElsewhere}
use Rattle.vg_volumes.specs.declared.stores.Store.{Ghosts}

-- what a store holds
pub record Stored : Type 0 where
  pub site : Site
  pub table : VolumeTable
  pub area : Held

-- what a store holds
abbrev pub stored : {S : Type 0} → Ghosts S → S → Stored
stored g s = record { site = g.site s; table = table_alone (g.table s); area = g.area s }

-- the sectors of a volume
abbrev pub sectors_in : Stored → Name → ℕ
sectors_in x n = size_of x.site x.table n

-- what a volume holds
abbrev pub held_in : Stored → Name → Held
held_in x n = volume_of x.site x.table x.area n

-- each place of the area that this volume has not is as it was
abbrev pub SameBeside : Name → Stored → Stored → Type 0
SameBeside n old new = SameElsewhere old.site.geometry.extent (extents_of (rows old.table n)) old.area new.area

-- each place of the area that this volume has not is kept
abbrev pub KeepsBeside : Name → Stored → Stored → Type 0
KeepsBeside n old new = KeepsElsewhere old.site.geometry.extent (extents_of (rows old.table n)) old.area new.area

-- no commit was made, no room is lost, and the device is kept beside the store
pub record Stays {S : Type 0} (g : Ghosts S) (old new : S) : Type 0 where
  pub site : g.site new ≡ g.site old
  pub table : table_alone (g.table new) ≡ table_alone (g.table old)
  pub failed : g.failed new ≡ g.failed old
  pub version : g.version new ≡ g.version old
  pub room : NoLessRoom (g.table old) (g.table new)
  pub faults : g.faults old ≤ g.faults new
  pub beside : g.told → Keeps (g.beside old) (g.beside new)

-- the store stays, and nothing was written
pub record OnlyReads {S : Type 0} (g : Ghosts S) (old new : S) : Type 0 where
  pub stays : Stays g old new
  pub device : g.told → Keeps (g.device old) (g.device new)
  pub held : g.told → SameHeld (g.area old) (g.area new)
  pub leaves : g.told → (t : VolumeTable) (image : ℕ → List ℕ) → g.leaves new t image → g.leaves old t image

-- the store stays, this alone may have happened to this volume, and nothing to the others
pub record Writes {S : Type 0} (g : Ghosts S) (name : Name) (Did : Held → Held → Type 0) (old new : S) : Type 0 where
  pub stays : Stays g old new
  pub did : g.told → Did (held_in (stored g old) name) (held_in (stored g new) name)
  pub beside : g.told → SameBeside name (stored g old) (stored g new)

-- the store stays, this volume alone was written, and what was written before may have been made last
pub record WorksOn {S : Type 0} (g : Ghosts S) (name : Name) (old new : S) : Type 0 where
  pub stays : Stays g old new
  pub elsewhere : g.told → KeepsBeside name (stored g old) (stored g new)

-- the device had a fault
abbrev pub Faults : {S : Type 0} → Ghosts S → S → S → Type 0
Faults g old new = Rose (g.faults old) (g.faults new)

-- a call fails only where the device had a fault, and where it succeeds the device had none
abbrev pub Counts : {S : Type 0} → Ghosts S → {T E : Type 0} → Result T E → S → S → Type 0
Counts g result old new = IsCounted result (g.faults old) (g.faults new)

-- a stop leaves only what is so
abbrev pub Leaves : {S : Type 0} → Ghosts S → S → (VolumeTable → (ℕ → List ℕ) → Type 0) → Type 0
Leaves g s P = g.told → (t : VolumeTable) (image : ℕ → List ℕ) → g.leaves s t image → P t image

-- what a stop leaves while no commit has failed: the table, and of the area any choice sector by sector
abbrev pub IsChoiceOf : Stored → VolumeTable → (ℕ → List ℕ) → Type 0
IsChoiceOf x t image = IsBefore (area_size x.site) x.table x.area t image

-- what a stop leaves of a commit: that, or the changed table with what a read gave
abbrev pub IsEitherOf : Stored → Change → VolumeTable → (ℕ → List ℕ) → Type 0
IsEitherOf x change t image = IsEither (area_size x.site) x.table (applied x.table change) x.area t image

-- what a commit asks
pub record CanCommit {S : Type 0} (g : Ghosts S) (change : Change) (s : S) : Type 0 where
  pub usable : g.failed s ≡ false
  pub allowed : Permits (g.site s).count (table_alone (g.table s)) change
  pub room : HasRoom (g.table s) change
  pub fits : Fits (g.site s).count (table_alone (g.table s)) change

-- a commit that succeeded
pub record Commits {S : Type 0} (g : Ghosts S) (change : Change) (old new : S) : Type 0 where
  pub site : g.site new ≡ g.site old
  pub table : table_alone (g.table new) ≡ applied (table_alone (g.table old)) change
  pub usable : g.failed new ≡ false
  pub faults : g.faults old ≤ g.faults new
  pub room : RoomAfter change (g.table old) (g.table new)
  pub beside : g.told → Keeps (g.beside old) (g.beside new)
  pub keeps : g.told → Keeps (g.area old) (g.area new)
  pub settled : g.told → IsSettled (g.area new)

-- a commit that failed: the earlier table still answers, and no other commit is made
pub record FailsToCommit {S : Type 0} (g : Ghosts S) (old new : S) : Type 0 where
  pub site : g.site new ≡ g.site old
  pub table : table_alone (g.table new) ≡ table_alone (g.table old)
  pub stuck : g.failed new ≡ true
  pub fault : Faults g old new
  pub faults : g.faults old ≤ g.faults new
  pub beside : g.told → Keeps (g.beside old) (g.beside new)
  pub keeps : g.told → Keeps (g.area old) (g.area new)
