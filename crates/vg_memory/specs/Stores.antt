-- What a store of volumes in memory stands for (this project's fake of a store).
use Rattle.std.specs.Prelude.{◌≡◌, ℕ, ◌+◌, ◌*◌, ◌≤◌, Bool, true, false, ◌⊎◌, List, []}
use Rattle.sm_base.specs.Limits.{extent_limit}
use Rattle.sm_base.specs.declared.sizes.Geometry.{Geometry}
use Rattle.sm_disk.specs.Sectors.{zeros}
use Rattle.sm_disk.specs.Held.{Held, Allows, IsSettled}
use Rattle.sm_disk.specs.Failing.{Orders, fails, no_orders}
use Rattle.sm_disk.specs.Memory.{Memory, WrittenPlaces, held_by}
use Rattle.uuid.specs.Parts.{zero_bytes}
use Rattle.vg_meta.specs.Tables.{VolumeTable, IsTable, new_table}
use Rattle.vg_meta.specs.Roomy.{RoomyTable, table_alone}
use Rattle.vg_meta.specs.declared.changes.Change.{Change}
use Rattle.vg_meta.specs.Changes.{applied}
use Rattle.vg_layout.specs.Places.{record_extents}
use Rattle.vg_volumes.specs.Sites.{Site, area_size}
use Rattle.vg_memory.specs.declared.memory.Course.{Course}
use Rattle.vg_memory.specs.declared.memory.Course.TheVariants.{Sound, Stopped, Undecided}

pub record StoreInMemory : Type 0 where
  pub site : Site
  pub table : RoomyTable
  -- the sectors of all extents that were written
  pub slots : WrittenPlaces
  -- how the commits have gone
  pub course : Course
  -- which calls to come fail
  pub orders : Orders
  -- how many calls have failed
  pub faults : ℕ
  -- the last write found no memory
  pub short : Bool

-- the sectors of all extents
abbrev pub area_of : StoreInMemory → Held
area_of s = held_by s.slots

-- what is held of places that are no part of the store: it shares its memory with nothing
abbrev pub beside_none : Held
beside_none = record { floor = λ p. []; pending = λ p. [] }

-- a commit has failed
abbrev pub has_failed : Course → Bool
has_failed Sound = false
has_failed Stopped = true
has_failed (Undecided change) = true

-- a commit that failed as it took effect may have made this table of that one
abbrev pub MayMake : Course → VolumeTable → VolumeTable → Type 0
MayMake Sound t u = ⊥
MayMake Stopped t u = ⊥
MayMake (Undecided change) t u = u ≡ applied t change

-- what a stop may leave: the table or the one that a failed commit may have made, and of the area any choice sector by
-- sector
pub record LeavesMemory (s : StoreInMemory) (left : VolumeTable) (image : ℕ → List ℕ) : Type 0 where
  pub table_is : (left ≡ table_alone s.table) ⊎ MayMake s.course (table_alone s.table) left
  pub sectors : Allows (area_size s.site) (area_of s) image

-- no call is told to fail
abbrev pub IsQuiet : Orders → Type 0
IsQuiet o = (k : ℕ) → fails o k ≡ false

-- so many calls have gone by
abbrev pub HavePassed : ℕ → Orders → Orders → Type 0
HavePassed n old new = (k : ℕ) → fails new k ≡ fails old (k + n)

-- a commit that was told to fail at its first call has done nothing; where it was told to at its second, the area is
-- synced and the change may have taken effect
pub record IsCommitStopped (change : Change) (old new : StoreInMemory) : Type 0 where
  pub first : fails old.orders 0 ≡ true → (new.course ≡ Stopped) × (new.slots ≡ old.slots)
  pub second : fails old.orders 0 ≡ false → fails old.orders 1 ≡ true → (new.course ≡ Undecided change) × IsSettled (area_of new)

-- what is always true of a store: the table is on its extents, and the area has just their sectors and never fails by
-- an order
pub record HoldsGroup (extent count : ℕ) (table : RoomyTable) (area : Memory) : Type 0 where
  pub few : count ≤ extent_limit
  pub sectors : area.sectors ≡ count * extent
  pub spread : IsTable count (table_alone table)
  pub quiet : IsQuiet area.orders

-- the store of a new repository
pub record IsNewStore (g : Geometry) (count : ℕ) (s : StoreInMemory) : Type 0 where
  pub geometry : s.site.geometry ≡ g
  pub count_is : s.site.count ≡ count
  pub identity : s.site.identity ≡ zero_bytes
  pub table : table_alone s.table ≡ new_table (record_extents g.extent)
  pub blank : (p : ℕ) → (area_of s).floor p ≡ zeros
  pub settled : IsSettled (area_of s)
  pub sound : s.course ≡ Sound
  pub orders : s.orders ≡ no_orders
  pub faults : s.faults ≡ 0
