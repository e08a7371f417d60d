-- What a new raw disk asks of table and memory, and what it makes of them (this project's format).
use Rattle.std.specs.Prelude.{◌≡◌, ℕ, true, false, List, length, None}
use Rattle.sm_base.specs.declared.names.Name.TheVariants.{Raw}
use Rattle.vg_meta.specs.Tables.{VolumeTable}
use Rattle.vg_meta.specs.Changes.{AreFree, applied}
use Rattle.vg_meta.specs.declared.changes.Change.TheVariants.{Create, Mark}
use Rattle.vg_meta.specs.declared.changes.Tag.TheVariants.{Fresh}
use Rattle.vg_extents.specs.Fits.{AreLeastFree}
use Rattle.vg_volumes.specs.Sites.{Site}
use Rattle.sm_machine.specs.Disks.{Disk, filled}
use Rattle.sm_machine.specs.Refusals.{refusal}
use Rattle.sm_machine.specs.declared.commands.Command.TheVariants as command
use Rattle.sm_record.specs.declared.records.Record.{Record}
use Rattle.sm_ready.specs.Known.{Known, shape_in}
use Rattle.sm_ready.specs.Refusing.{extents_for}

-- a raw disk may be made on these extents: they are free, and a command that asks for one of so many is not refused
pub record IsForDisk (s : Site) (t : VolumeTable) (m : Known) (u label es : List ℕ) : Type 0 where
  pub size : ℕ
  pub accepted : refusal (shape_in s t m) (command.Create u size true label) ≡ None
  pub many : length es ≡ extents_for s.geometry.extent size
  pub extents_free : AreFree s.count t.volumes es

-- the table with the volume of a raw disk, new, and then not new
abbrev pub table_begun : VolumeTable → List ℕ → List ℕ → VolumeTable
table_begun t u extents = applied t (Create (Raw u) true extents)

abbrev pub table_made : VolumeTable → List ℕ → List ℕ → VolumeTable
table_made t u extents = applied (table_begun t u extents) (Mark (Raw u) Fresh false)

-- the record of a new disk
abbrev pub entry_of : List ℕ → List ℕ → Record
entry_of u label = record { uuid = u; label = label; origin = None; read_only = false }

-- a new disk of so many sectors
abbrev pub new_disk : List ℕ → List ℕ → ℕ → Disk
new_disk u label size = record { uuid = u; label = label; origin = None; read_only = false; sectors = filled size 0 }

-- the table has a new raw disk, on so many extents that were free: the least of them, rising
pub record IsOnLeast (s : Site) (t : VolumeTable) (u : List ℕ) (count : ℕ) (next : VolumeTable) : Type 0 where
  pub extents : List ℕ
  pub least : AreLeastFree s.count count t extents
  pub made : next ≡ table_made t u extents
