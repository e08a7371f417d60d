-- How the volume of a log is made: as new, by one commit; its head and its bits are written into it; and by another commit it is new no longer.
use Rattle.std.specs.Prelude.{◌≡◌, ℕ, ◌+◌, ◌*◌, ◌/◌, ◌%◌, ◌<◌, ◌≤◌, true, false, ◌⊎◌, List, length, Some}
use Rattle.sm_base.specs.Numbers.{div_up}
use Rattle.sm_base.specs.declared.names.Name.TheVariants.{Cbt}
use Rattle.sm_disk.specs.Held.{IsSettled, Keeps, reads}
use Rattle.vg_meta.specs.Changes.{Permits, applied, made}
use Rattle.vg_meta.specs.Roomy.{table_alone}
use Rattle.vg_meta.specs.Tables.{VolumeTable, rows}
use Rattle.vg_meta.specs.declared.changes.Change.{Change}
use Rattle.vg_meta.specs.declared.changes.Change.TheVariants.{Create, Mark}
use Rattle.vg_meta.specs.declared.changes.Tag.TheVariants.{Fresh}
use Rattle.vg_volumes.specs.Sites.{Fits, RoomAfter, Site, area_size}
use Rattle.vg_volumes.specs.Stored.{IsChoiceOf, Stored, held_in, stored}
use Rattle.vg_volumes.specs.Volumes.{IsElsewhere, KeepsElsewhere, piece, span}
use Rattle.vg_volumes.specs.declared.stores.Store.{Ghosts}
use Rattle.vhd_map.specs.Bitmaps.{is_set}
use Rattle.sm_log.specs.Coded.{packed, packed_sector}
use Rattle.sm_log.specs.Heads.{head_in, head_sector}
use Rattle.sm_log.specs.Logs.{Log, bit, log_sectors, sector_bits}
use Rattle.sm_log.specs.declared.heads.Head.{Head}

-- ---- what is written

-- the head of a log
abbrev pub head_of : Log → Head
head_of l = record { tag = l.tag; since = l.since; pieces = length l.bits }

-- all bytes of its bits, in whole sectors
abbrev pub bits_bytes : Log → List ℕ
bits_bytes l = packed (512 * div_up (length l.bits) sector_bits) l.bits

-- these sectors are those that are written of a log: its head, and behind it its bits
pub record AreOf (l : Log) (sectors : ℕ → List ℕ) : Type 0 where
  pub head : sectors 0 ≡ head_sector (head_of l)
  pub bits : (i : ℕ) → i < div_up (length l.bits) sector_bits → sectors (1 + i) ≡ packed_sector i l.bits

-- these sectors are read as the log: the first as its head, and behind it each piece's bit is as in the log
pub record Spells (l : Log) (sectors : ℕ → List ℕ) : Type 0 where
  pub head : head_in (sectors 0) ≡ Some (head_of l)
  pub bits : (k : ℕ) → k < length l.bits → is_set (sectors (1 + k / sector_bits)) (k % sector_bits) ≡ bit l.bits k

-- ---- the two commits

-- the volume of a log is made as new, on these extents
abbrev pub creating : Log → List ℕ → Change
creating l extents = Create (Cbt l.disk) true extents

-- it is new no longer
abbrev pub finishing : Log → Change
finishing l = Mark (Cbt l.disk) Fresh false

-- the table behind the first commit
abbrev pub begun_table : VolumeTable → Log → List ℕ → VolumeTable
begun_table t l extents = applied t (creating l extents)

-- the table behind the second
abbrev pub made_table : VolumeTable → Log → List ℕ → VolumeTable
made_table t l extents = applied (begun_table t l extents) (finishing l)

-- what is asked: the log has a bit at least, and its extents are these, which have the sectors for it; the first commit is allowed and its table fits its slot
pub record MayMake (s : Site) (t : VolumeTable) (l : Log) (extents : List ℕ) : Type 0 where
  pub some : 1 ≤ length l.bits
  pub counted : l.extents ≡ length extents
  pub sectors : log_sectors (length l.bits) ≤ span s.geometry.extent extents
  pub allowed : Permits s.count t (creating l extents)
  pub fits : Fits s.count t (creating l extents)

-- ---- what is left

-- an image of the area has what a read gave at each place that these extents have not
abbrev pub AsReadBeside : Stored → List ℕ → (ℕ → List ℕ) → Type 0
AsReadBeside x extents image = (p : ℕ) → p < area_size x.site → IsElsewhere x.site.geometry.extent extents p → image p ≡ reads x.area p

-- the log's volume stands there as new, with any sectors; all else is as a read gave it
pub record IsBegun (x : Stored) (l : Log) (extents : List ℕ) (t : VolumeTable) (image : ℕ → List ℕ) : Type 0 where
  pub table : t ≡ begun_table x.table l extents
  pub beside : AsReadBeside x extents image

-- it stands there, not new, and is read as the log; all else is as a read gave it
pub record IsMade (x : Stored) (l : Log) (extents : List ℕ) (t : VolumeTable) (image : ℕ → List ℕ) : Type 0 where
  pub table : t ≡ made_table x.table l extents
  pub beside : AsReadBeside x extents image
  pub spells : Spells l (piece x.site.geometry.extent extents image)

-- what a stop leaves while it is made: what it might have left before, or the log's volume new, or the log whole
abbrev pub IsMaking : Stored → Log → List ℕ → VolumeTable → (ℕ → List ℕ) → Type 0
IsMaking x l extents t image = IsChoiceOf x t image ⊎ (IsBegun x l extents t image ⊎ IsMade x l extents t image)

-- the log's extents alone were written, and nothing of the device beside the store
pub record WritesOnly {S : Type 0} (g : Ghosts S) (extents : List ℕ) (old new : S) : Type 0 where
  pub site : g.site new ≡ g.site old
  pub counts : g.faults old ≤ g.faults new
  pub beside : g.told → Keeps (g.beside old) (g.beside new)
  pub elsewhere : g.told → KeepsElsewhere (g.site old).geometry.extent extents (g.area old) (g.area new)

-- the making failed: the table is that of before, or has the volume as new; where no commit failed, any choice of the sectors is left as while it was made
pub record FailsToMake {S : Type 0} (g : Ghosts S) (l : Log) (extents : List ℕ) (old new : S) : Type 0 where
  pub writes : WritesOnly g extents old new
  pub table : (table_alone (g.table new) ≡ table_alone (g.table old)) ⊎ (table_alone (g.table new) ≡ begun_table (table_alone (g.table old)) l extents)
  pub choice : g.told → g.failed new ≡ false → (t : VolumeTable) (image : ℕ → List ℕ) → IsChoiceOf (stored g new) t image → IsMaking (stored g old) l extents t image

-- the log was made: its volume is there, not new, nothing is pending, and a read of it gives the log
pub record Makes {S : Type 0} (g : Ghosts S) (l : Log) (extents : List ℕ) (old new : S) : Type 0 where
  pub writes : WritesOnly g extents old new
  pub table : table_alone (g.table new) ≡ made_table (table_alone (g.table old)) l extents
  pub there : rows (table_alone (g.table new)) (Cbt l.disk) ≡ Some (made (Cbt l.disk) false extents)
  pub usable : g.failed new ≡ false
  pub room : RoomAfter (creating l extents) (g.table old) (g.table new)
  pub settled : g.told → IsSettled (g.area new)
  pub spells : g.told → Spells l (reads (held_in (stored g new) (Cbt l.disk)))
