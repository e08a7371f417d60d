-- A disk that is imported, between two calls while its file is read: its volume, the image in it, and what holds of the store that the
-- import was begun on (this project's own).
use Rattle.std.specs.Prelude.{◌≡◌, ◌==◌, ◌≤◌, ℕ, ◌+◌, ◌-◌, Bool, true, false, List, replicate, None, is_some, length}
use Rattle.std.specs.List.{filter_map, list_any}
use Rattle.sm_base.specs.declared.names.Name.{Name}
use Rattle.sm_base.specs.declared.names.Name.TheVariants.{Vhd}
use Rattle.sm_base.specs.declared.sizes.Geometry.{Geometry}
use Rattle.sm_disk.specs.Held.{Keeps, Rose}
use Rattle.sm_disk.specs.Sectors.{zeros}
use Rattle.vg_meta.specs.Changes.{without}
use Rattle.vg_meta.specs.Roomy.{table_alone}
use Rattle.vg_meta.specs.Tables.{VolumeTable, extents_in, free as free_of}
use Rattle.vg_volumes.specs.declared.stores.Store.{Ghosts}
use Rattle.sm_ready.specs.Frames.{HasCommits}
use Rattle.sm_ready.specs.Framing.{IsBetweenSteps}
use Rattle.sm_ready.specs.Known.{known}
use Rattle.sm_ready.specs.Sessions.{IsReadyStore}
use Rattle.sm_ready.specs.declared.memory.Memory.{Memory}
use Rattle.vhd_layout.specs.Layouts.{Sectors}
use Rattle.vhd_map.specs.Slots.{slot_of}
use Rattle.vhd_filling.specs.Filled.{Fills, HasBitmaps, IsSound, TakesSlot, held, held_now, slots_taken}
use Rattle.vhd_filling.specs.declared.fillings.Filling.{Filling}
use Rattle.vhd_import.specs.Making.{filled}
use Rattle.vhd_import.specs.Puts.{Put}
use Rattle.vhd_import.specs.Room.{Target, block_of}
use Rattle.vhd_import.specs.declared.disks.PutFault.{PutFault}
use Rattle.vhd_import.specs.declared.disks.PutFault.TheVariants as put
use Rattle.sm_importing.specs.declared.faults.RoomFault.{RoomFault}
use Rattle.sm_importing.specs.declared.faults.RoomFault.TheVariants as room
use Rattle.sm_importing.specs.Imports.{GoesNoLower, ImportsSince, IsImporting, LeavesStill, MayImport, extents_of_volume, thin_in}

-- ---- room

-- the extents that no volume beside this one has
abbrev pub room_beside : ℕ → VolumeTable → Name → ℕ
room_beside count t n = count - length (extents_in (without n t.volumes))

-- the same in a store
abbrev pub room_for : {S : Type 0} → Ghosts S → S → List ℕ → ℕ
room_for g s u = room_beside (g.site s).count (table_alone (g.table s)) (Vhd u)

-- the repository of these sizes, of which so many extents were free
abbrev pub target_of : Geometry → ℕ → Target
target_of sizes room = record { extent = sizes.extent; block = sizes.block; entries = sizes.entries; free = room }

-- ---- the image

-- nothing was put into the image: it has no slot, and each sector of its disk is zeros, whatever its volume holds
pub record IsBlank (f : Filling) : Type 0 where
  pub sound : IsSound f
  pub map : f.map ≡ replicate f.geometry.entries None
  pub slots : slots_taken f ≡ 0
  pub bitmaps : (v : Sectors) → HasBitmaps f v
  pub held : (v : Sectors) (s : ℕ) → held f v s ≡ zeros

-- The volume is still to be made: the session is as between two steps, the disk may be imported, nothing was put into its image, and so
-- many extents are free.
pub record IsToBegin {S : Type 0} (g : Ghosts S) (s : S) (m : Memory) (u : List ℕ) (f : Filling) (room : ℕ) : Type 0 where
  pub session : IsBetweenSteps g s m
  pub may : MayImport (known m) u
  pub blank : IsBlank f
  pub volume : f.volume ≡ Vhd u
  pub sizes : (g.site s).geometry ≡ f.geometry
  pub room_is : room ≡ length (free_of (g.site s).count (table_alone (g.table s)))

-- the disk is imported, and its image is filled in its volume, which has the extents of an image with so many slots
pub record IsFilledTo {S : Type 0} (g : Ghosts S) (s : S) (m : Memory) (u : List ℕ) (f : Filling) (slots : ℕ) : Type 0 where
  pub importing : IsImporting g s m u
  pub fills : Fills g f s
  pub volume : f.volume ≡ Vhd u
  pub extents : extents_of_volume (table_alone (g.table s)) (Vhd u) ≡ thin_in (g.site s) slots

-- the disk is imported, and its image is filled in its volume, which has the extents of an image with just the slots that were taken
abbrev pub IsFilled : {S : Type 0} → Ghosts S → S → Memory → List ℕ → Filling → Type 0
IsFilled g s m u f = IsFilledTo g s m u f (slots_taken f)

-- there is room for a put of these bytes: where it takes a slot, the volume has the extents of an image with one slot more
pub record HasPutRoom {S : Type 0} (g : Ghosts S) (s : S) (m : Memory) (u : List ℕ) (f : Filling) (sector : ℕ) (bytes : List ℕ) : Type 0 where
  pub more : TakesSlot f sector bytes → IsFilledTo g s m u f (slots_taken f + 1)
  pub same : (TakesSlot f sector bytes → ⊥) → IsFilled g s m u f

-- ---- what was put

-- just the blocks into which other bytes than zeros came have slots
pub record HasBlocksOf (f : Filling) (t : Target) (puts : List Put) : Type 0 where
  pub block : t.block ≡ f.geometry.block
  pub entries : t.entries ≡ f.geometry.entries
  pub blocks : (b : ℕ) → is_some (slot_of f.map b) ≡ list_any (λ c. c == b) (filter_map (block_of t) puts)

-- The image holds what these puts leave, of which the newest comes first: each sector what they leave there, and just the blocks into which
-- other bytes than zeros came have slots.
pub record HoldsPuts {S : Type 0} (g : Ghosts S) (f : Filling) (s : S) (t : Target) (puts : List Put) : Type 0 where
  pub held : g.told → (k : ℕ) → held_now g f s k ≡ filled puts k
  pub blocks : HasBlocksOf f t puts

-- the image holds what these puts leave, in the repository of its store
abbrev pub PutsAs : {S : Type 0} → Ghosts S → Filling → S → List ℕ → List Put → Type 0
PutsAs g f s u puts = HoldsPuts g f s (target_of f.geometry (room_for g s u)) puts

-- why nothing was put, where the volume has no room
abbrev pub put_fault : RoomFault → PutFault
put_fault (room.NoSpace need left) = put.NoSpace need left
put_fault room.NoMemory = put.NoMemory
put_fault room.Device = put.Device

-- a call of the store failed
abbrev pub is_device : PutFault → Bool
is_device put.Device = true
is_device put.NoMemory = false
is_device (put.NoSpace need left) = false

-- ---- since the begin

-- what an import is begun on: a store, what is in memory of it, and the UUID of the disk
pub record Begin (S : Type 0) : Type 0 where
  pub store : S
  pub memory : Memory
  pub disk : List ℕ

-- Since the begin the same disk is imported, at the same site, and what is beside the store is kept. Nothing was done to the store before
-- the volume was made; whatever a stop leaves since then shows the disks from before, also where the import is over. Where it is over and the
-- volume may be there, a call of the store failed. While it goes on, no more commits were made than its volume has extents. The sequence
-- number is never lower.
pub record IsSince {S : Type 0} (g : Ghosts S) (o : Begin S) (s : S) (m : Memory) (u : List ℕ) (begun over : Bool) : Type 0 where
  pub memory : m ≡ o.memory
  pub disk : u ≡ o.disk
  pub site : g.site s ≡ g.site o.store
  pub beside : g.told → Keeps (g.beside o.store) (g.beside s)
  pub unbegun : over ≡ false → begun ≡ false → s ≡ o.store
  pub goes_on : g.told → IsReadyStore g o.store o.memory → over ≡ false → begun ≡ true → ImportsSince g o.disk o.memory o.store s
  pub stops : g.told → IsReadyStore g o.store o.memory → over ≡ true → LeavesStill g o.memory o.store s
  pub counts : g.faults o.store ≤ g.faults s
  pub failed : over ≡ true → begun ≡ true → Rose (g.faults o.store) (g.faults s)
  pub few : over ≡ false → begun ≡ true → HasCommits (extents_of_volume (table_alone (g.table s)) (Vhd u)) (table_alone (g.table o.store)) (table_alone (g.table s))
  pub no_lower : GoesNoLower g o.store s
