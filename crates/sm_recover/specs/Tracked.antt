-- The logs that an opening reads: those of the disks that are there, each of as many pieces as the disk's image has in memory.
use Rattle.std.specs.Prelude.{◌≡◌, ◌≤◌, ◌-◌, ◌^◌, ℕ, min, true, List, length, Option, Some, None, is_some, if◌then◌else◌}
use Rattle.std.specs.List.{filter_map}
use Rattle.common_laws.specs.Lists.{given}
use Rattle.sm_base.specs.declared.faults.OpenFault.{OpenFault}
use Rattle.sm_base.specs.declared.faults.OpenFault.TheVariants as fault
use Rattle.sm_base.specs.declared.faults.Place.TheVariants as at
use Rattle.sm_base.specs.declared.names.Name.{Name}
use Rattle.sm_base.specs.declared.names.Name.TheVariants.{Mgt, Vhd, Raw, Old, Cbt, Clone, Inflate, Coalesce, Relink, Leaf}
use Rattle.vg_meta.specs.Tables.{Row, VolumeTable}
use Rattle.vg_meta.specs.Roomy.{table_alone}
use Rattle.vg_volumes.specs.declared.stores.Store.{Ghosts}
use Rattle.sm_log.specs.Logs.{Log, piece_count}
use Rattle.sm_logs.specs.Held.{IsRising}
use Rattle.sm_standing.specs.Contents.{Content}
use Rattle.sm_standing.specs.LogChecks.{log_fault, standing_pieces}
use Rattle.sm_standing.specs.Logs.{logs}
use Rattle.sm_standing.specs.Standing.{standing_volume}
use Rattle.vhd_image.specs.Bodies.{sector_count}
use Rattle.vhd_chain.specs.declared.rows.TreeRow.{TreeRow}
use Rattle.sm_log_reading.specs.Right.{AreNumbered, AreReadOf}
use Rattle.sm_log_reading.specs.declared.logs.DiskPieces.{DiskPieces}
use Rattle.sm_log_reading.specs.declared.logs.LogFault.{LogFault}
use Rattle.sm_log_reading.specs.declared.logs.LogFault.TheVariants as read
use Rattle.sm_ready.specs.Shown.{of_shown}
use Rattle.sm_ready.specs.Stores.{store_content}

-- the pieces of an image, at most as many as a number of 32 bits can say; none where there is none
abbrev pub pieces_of : Option TreeRow → ℕ
pieces_of None = 0
pieces_of (Some x) = min (piece_count (sector_count x.image)) (2 ^ 32 - 1)

-- the pieces of the visible image of a UUID; none where there is none
abbrev pub tree_pieces : List TreeRow → List ℕ → ℕ
tree_pieces xs u = pieces_of (of_shown (λ r. r) xs u)

-- the disk of the log of this name, with its pieces, where the disk is there
abbrev pub disk_named : VolumeTable → List TreeRow → Name → Option DiskPieces
disk_named t xs (Cbt u) = given (is_some (standing_volume t u)) (record { disk = u; pieces = tree_pieces xs u })
disk_named t xs Mgt = None
disk_named t xs (Vhd u) = None
disk_named t xs (Raw u) = None
disk_named t xs (Old u) = None
disk_named t xs (Clone disk base twin) = None
disk_named t xs (Inflate image extents) = None
disk_named t xs (Coalesce child parent) = None
disk_named t xs (Relink child parent) = None
disk_named t xs (Leaf leaf parent) = None

-- the disk of a volume that is a log and not new, with its pieces, where the disk is there
abbrev pub disk_logged : VolumeTable → List TreeRow → Row → Option DiskPieces
disk_logged t xs r = if r.fresh then None else disk_named t xs r.name

-- the disks that are there and have a log that is not new, in order of name
unfoldable pub logged_disks : VolumeTable → List TreeRow → List DiskPieces
logged_disks t xs = filter_map (disk_logged t xs) t.volumes

-- each disk of a content has as many pieces as its image in memory
abbrev pub HasPiecesOf : Content → List TreeRow → Type 0
HasPiecesOf c xs = (u : List ℕ) → is_some (standing_volume c.table u) ≡ true → tree_pieces xs u ≡ standing_pieces c u

-- the logs in memory are those of the disks that are there, with numbers that were used; and where the content is told its check of logs passes,
-- and they are its logs
pub record AreLogsRead {S : Type 0} (g : Ghosts S) (s : S) (xs : List TreeRow) (ls : List Log) : Type 0 where
  pub read : AreReadOf (table_alone (g.table s)) (g.site s).geometry.extent (logged_disks (table_alone (g.table s)) xs) ls
  pub numbered : AreNumbered (table_alone (g.table s)).sequence ls
  pub few : length ls ≤ length (logged_disks (table_alone (g.table s)) xs)
  pub rising : IsRising ls
  pub pass : g.told → log_fault (store_content g s) ≡ None
  pub are : g.told → ls ≡ logs (store_content g s)

-- why an opening stops where the logs were not read
abbrev pub open_fault : LogFault → OpenFault
open_fault (read.Log u) = fault.Damaged (at.Log (Cbt u))
open_fault read.Device = fault.Device
open_fault read.NoMemory = fault.NoMemory
