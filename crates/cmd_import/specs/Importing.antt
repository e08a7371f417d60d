-- What an import is answered, and what it did to a store (this project's own).
use Rattle.std.specs.Prelude.{◌≡◌, ◌⊎◌, ℕ, ◌+◌, ◌-◌, ◌*◌, ◌/◌, ◌^◌, ◌≤◌, min, List, length, ⊤, Option, Some, None, Result, Ok, Err, IsOk, IfErr, IfSome, OnOk}
use Rattle.sm_base.specs.Names.{base_uuid}
use Rattle.sm_base.specs.Numbers.{div_up}
use Rattle.sm_base.specs.declared.names.Name.TheVariants.{Vhd}
use Rattle.sm_disk.specs.Held.{Rose}
use Rattle.common_laws.specs.Lists.{In}
use Rattle.sm_machine.specs.Disks.{Disk, sector_bytes, with_disk}
use Rattle.sm_machine.specs.Shapes.{Shape, free}
use Rattle.sm_standing.specs.Standing.{disks}
use Rattle.sm_ready.specs.Done.{HasDone}
use Rattle.sm_ready.specs.Known.{known, shape_in}
use Rattle.sm_ready.specs.Stores.{StoreLeaves, store_content}
use Rattle.sm_ready.specs.declared.memory.Memory.{Memory}
use Rattle.sm_refusals.specs.Importing.{entry_refusal}
use Rattle.vg_meta.specs.Roomy.{table_alone}
use Rattle.vg_meta.specs.Tables.{VolumeTable}
use Rattle.vg_volumes.specs.Sites.{Site}
use Rattle.vg_volumes.specs.declared.stores.Store.{Ghosts}
use Rattle.vhd_chain.specs.Trees.{with_row}
use Rattle.vhd_image.specs.Made.{new_head}
use Rattle.vhd_image.specs.declared.images.Body.TheVariants as image
use Rattle.vhd_import.specs.Room.{Target}
use Rattle.sm_importing.specs.Endings.{row_of}
use Rattle.sm_importing.specs.Imports.{extents_of_volume}
use Rattle.vhd_import.specs.Verdicts.{Denied, Long, Made, imported, verdict_of}
use Rattle.vhd_import.specs.declared.faults.ImportFault.{ImportFault}
use Rattle.vhd_import.specs.declared.faults.ImportFault.TheVariants as fault

-- the repository that a file goes into
abbrev pub target_in : Shape → Target
target_in s = record { extent = s.extent; block = s.block; entries = s.entries; free = free s }

-- the shape of a store and of the memory beside it, whatever the device holds
abbrev pub shape_of : {S : Type 0} → Ghosts S → S → Memory → Shape
shape_of g s m = shape_in (g.site s) (table_alone (g.table s)) (known m)

-- so many sectors as whole blocks
abbrev pub whole_blocks : ℕ → ℕ → ℕ
whole_blocks block sectors = div_up sectors block * block

-- What an import answers to these bytes: the size of the disk in bytes, by the verdict on them; or a cause from before their first, or the
-- verdict's; or a call failed, or memory was wanting.
abbrev pub Answers : Shape → List ℕ → List ℕ → Result ℕ ImportFault → Type 0
Answers s uuid bytes (Ok size) =
    (entry_refusal s uuid ≡ None) × (sectors : List (List ℕ)) × (verdict_of (target_in s) bytes ≡ Made sectors) × (size ≡ sector_bytes * whole_blocks s.block (length sectors))
Answers s uuid bytes (Err (fault.Refused r)) = (entry_refusal s uuid ≡ Some r) ⊎ ((entry_refusal s uuid ≡ None) × (verdict_of (target_in s) bytes ≡ Denied r))
Answers s uuid bytes (Err fault.Long) = (entry_refusal s uuid ≡ None) × (verdict_of (target_in s) bytes ≡ Long)
Answers s uuid bytes (Err fault.Device) = ⊤
Answers s uuid bytes (Err fault.Source) = ⊤
Answers s uuid bytes (Err fault.NoMemory) = ⊤

-- By its fault: the count of the source's faults rose, and the device had none; or that of the device rose, where the source may have had one
-- before, behind which the new volume could not be removed; or none rose.
abbrev pub EndFaultCounts : ℕ → ℕ → ℕ → ℕ → ImportFault → Type 0
EndFaultCounts s s' d d' fault.Source = (s ≤ s') × Rose s s' × (d' ≡ d)
EndFaultCounts s s' d d' fault.Device = (s ≤ s') × (d ≤ d') × Rose d d'
EndFaultCounts s s' d d' _ = (s' ≡ s) × (d' ≡ d)

-- faults of the source, before and now, and of the device: none came where the import succeeded, and else those that its fault says
abbrev pub EndCounts : {T : Type 0} → Result T ImportFault → ℕ → ℕ → ℕ → ℕ → Type 0
EndCounts result s s' d d' = OnOk result ((s' ≡ s) × (d' ≡ d)) × IfErr result (EndFaultCounts s s' d d')

-- these disks are those from before and the one that is made of the bytes
pub record IsJoined (t : Target) (uuid bytes : List ℕ) (was ds : List Disk) : Type 0 where
  pub sectors : List (List ℕ)
  pub made : verdict_of t bytes ≡ Made sectors
  pub disks_are : ds ≡ with_disk (imported t.block uuid sectors) was

-- The disks at the end of an import, by its answer and by the bytes of the source, where these are told: one more, or those from before;
-- or either of them, where a call of the device failed.
abbrev pub EndsWith : Target → List ℕ → Option (List ℕ) → List Disk → List Disk → Result ℕ ImportFault → Type 0
EndsWith t uuid bytes was ds (Ok size) = IfSome bytes (λ b. IsJoined t uuid b was ds)
EndsWith t uuid bytes was ds (Err fault.Device) = (ds ≡ was) ⊎ IfSome bytes (λ b. IsJoined t uuid b was ds)
EndsWith t uuid bytes was ds (Err (fault.Refused r)) = ds ≡ was
EndsWith t uuid bytes was ds (Err fault.Long) = ds ≡ was
EndsWith t uuid bytes was ds (Err fault.Source) = ds ≡ was
EndsWith t uuid bytes was ds (Err fault.NoMemory) = ds ≡ was

-- What an import did to a store: each image that a stop leaves is kept, and shows the disks from before it or those at its end: those from
-- before, and none beside them but the one with the UUID.
pub record HasImported {S : Type 0} (g : Ghosts S) (uuid : List ℕ) (bytes : Option (List ℕ)) (m m' : Memory) (old new : S) (result : Result ℕ ImportFault) : Type 0 where
  pub ends : List Disk
  pub ends_with : EndsWith (target_in (shape_of g old m)) uuid bytes (disks (store_content g old)) ends result
  pub still : (d : Disk) → In d (disks (store_content g old)) → In d ends
  pub others : (d : Disk) → In d ends → (d.uuid ≡ uuid) ⊎ In d (disks (store_content g old))
  pub done : HasDone (g.site old) (table_alone (g.table old)) (table_alone (g.table new)) (g.area old) (g.area new) (known m') (StoreLeaves g old) (StoreLeaves g new) (IsOk result) ends

-- One image came into the tree, that of the disk: in its volume and all of it, visible, without a parent, of so many bytes, made at this time;
-- its unique id is spelled by the number that the table had in front of the last commit.
pub record HasNewImage (s : Site) (t : VolumeTable) (uuid : List ℕ) (now size : ℕ) (m m' : Memory) : Type 0 where
  pub number : ℕ
  pub slots : List (Option ℕ)
  pub numbered : t.sequence ≡ min (number + 1) (2 ^ 48 - 1)
  pub rows : m'.tree.rows ≡ with_row (row_of (image.Vhd (new_head s.geometry (Vhd uuid) now (size / sector_bytes) (base_uuid number) None) slots) (extents_of_volume t (Vhd uuid))) m.tree.rows
