-- How the log of a disk is split as a snapshot is taken of the disk: the snapshot's log is made, with the bits so far; and then the disk's log
-- is written anew, which has the snapshot's tag as its since and no bits. Its head is made to last before a bit is cleared.
use Rattle.std.specs.Prelude.{◌≡◌, ℕ, ◌<◌, ◌≤◌, ◌⊎◌, false, List}
use Rattle.sm_base.specs.declared.names.Name.TheVariants.{Cbt}
use Rattle.sm_disk.specs.Held.{Held, IsSettled, Keeps, May, Puts, reads}
use Rattle.vg_meta.specs.Roomy.{table_alone}
use Rattle.vg_meta.specs.Tables.{VolumeTable, extents_of, rows}
use Rattle.vg_volumes.specs.Sites.{RoomAfter, area_size}
use Rattle.vg_volumes.specs.Stored.{IsChoiceOf, Stored, held_in, sectors_in, stored}
use Rattle.vg_volumes.specs.Volumes.{IsElsewhere, KeepsAt, piece}
use Rattle.vg_volumes.specs.declared.stores.Store.{Ghosts}
use Rattle.sm_log.specs.Heads.{IsHead, head_sector}
use Rattle.sm_log.specs.Logs.{Log}
use Rattle.sm_cbt.specs.Making.{AreOf, IsMaking, Spells, begun_table, bits_bytes, creating, head_of, made_table}

-- while the head is written a stop leaves the old one or the new one, and all bits as they might have been
abbrev pub HasEitherHead : Log → Held → Held → Type 0
HasEitherHead l old new = (q : ℕ) (v : List ℕ) → May new q v → May old q v ⊎ Puts 0 (head_sector (head_of l)) q v

-- behind that it leaves the new head alone, and of the bits each sector as it might have been or as it is to be
pub record HasNewHead (l : Log) (old new : Held) : Type 0 where
  pub head : (v : List ℕ) → May new 0 v → v ≡ head_sector (head_of l)
  pub bits : (q : ℕ) (v : List ℕ) → 1 ≤ q → May new q v → May old q v ⊎ Puts 1 (bits_bytes l) q v

-- a log is written over another one
abbrev pub IsRenewing : Log → Held → Held → Type 0
IsRenewing l old new = HasEitherHead l old new ⊎ HasNewHead l old new

-- it is written, and nothing is pending
pub record IsRenewed {S : Type 0} (g : Ghosts S) (l : Log) (s : S) : Type 0 where
  pub proper : IsHead (head_of l)
  pub settled : g.told → IsSettled (g.area s)
  pub written : g.told → AreOf l (reads (held_in (stored g s) (Cbt l.disk)))

-- ---- the split

-- the extents of the volume of a log
abbrev pub own_extents : Stored → Log → List ℕ
own_extents x l = extents_of (rows x.table (Cbt l.disk))

-- the extents of the new volume have no part in this place, nor has the volume of the log
pub record IsApart (x : Stored) (l : Log) (extents : List ℕ) (p : ℕ) : Type 0 where
  pub new : IsElsewhere x.site.geometry.extent extents p
  pub own : IsElsewhere x.site.geometry.extent (own_extents x l) p

-- of a volume of so many sectors that were read so, one head or the other is left, and all else as it was
abbrev pub LeavesEitherHead : Log → ℕ → (ℕ → List ℕ) → (ℕ → List ℕ) → Type 0
LeavesEitherHead l size old now = (q : ℕ) → q < size → (now q ≡ old q) ⊎ Puts 0 (head_sector (head_of l)) q (now q)

-- or the new head, and of the bits each sector as it was or as it is to be
pub record LeavesNewHead (l : Log) (size : ℕ) (old now : ℕ → List ℕ) : Type 0 where
  pub head : now 0 ≡ head_sector (head_of l)
  pub bits : (q : ℕ) → 1 ≤ q → q < size → (now q ≡ old q) ⊎ Puts 1 (bits_bytes l) q (now q)

-- what a stop leaves once the snapshot's log, the twin, is made: it is read as that log, of the disk's log the head or the head and bits are
-- renewed, and all else is as a read gave it
pub record IsSplitting (x : Stored) (twin l : Log) (extents : List ℕ) (t : VolumeTable) (image : ℕ → List ℕ) : Type 0 where
  pub proper : IsHead (head_of l)
  pub table : t ≡ made_table x.table twin extents
  pub beside : (p : ℕ) → p < area_size x.site → IsApart x l extents p → image p ≡ reads x.area p
  pub twin_read : Spells twin (piece x.site.geometry.extent extents image)
  pub order : LeavesEitherHead l (sectors_in x (Cbt l.disk)) (reads (held_in x (Cbt l.disk))) (piece x.site.geometry.extent (own_extents x l) image)
      ⊎ LeavesNewHead l (sectors_in x (Cbt l.disk)) (reads (held_in x (Cbt l.disk))) (piece x.site.geometry.extent (own_extents x l) image)

-- what a stop leaves in all: while the twin's log is made, and behind that
abbrev pub IsInSplit : Stored → Log → Log → List ℕ → VolumeTable → (ℕ → List ℕ) → Type 0
IsInSplit x twin l extents t image = IsMaking x twin extents t image ⊎ IsSplitting x twin l extents t image

-- the two volumes alone were written, and nothing of the device beside the store
pub record WritesBoth {S : Type 0} (g : Ghosts S) (l : Log) (extents : List ℕ) (old new : S) : Type 0 where
  pub site : g.site new ≡ g.site old
  pub counts : g.faults old ≤ g.faults new
  pub beside : g.told → Keeps (g.beside old) (g.beside new)
  pub elsewhere : g.told → KeepsAt (λ p. IsApart (stored g old) l extents p) (g.area old) (g.area new)

-- the split failed: the table is that of before, or has the twin's volume as new, or no longer new; where no commit failed, any choice of the sectors is
-- left as in the middle
pub record FailsToSplit {S : Type 0} (g : Ghosts S) (twin l : Log) (extents : List ℕ) (old new : S) : Type 0 where
  pub writes : WritesBoth g l extents old new
  pub table : (table_alone (g.table new) ≡ table_alone (g.table old)) ⊎ ((table_alone (g.table new) ≡ begun_table (table_alone (g.table old)) twin extents)
      ⊎ (table_alone (g.table new) ≡ made_table (table_alone (g.table old)) twin extents))
  pub choice : g.told → g.failed new ≡ false → (t : VolumeTable) (image : ℕ → List ℕ) → IsChoiceOf (stored g new) t image → IsInSplit (stored g old) twin l extents t image

-- the log was split: the twin's volume is there, nothing is pending, and a read gives both logs
pub record Splits {S : Type 0} (g : Ghosts S) (twin l : Log) (extents : List ℕ) (old new : S) : Type 0 where
  pub writes : WritesBoth g l extents old new
  pub table : table_alone (g.table new) ≡ made_table (table_alone (g.table old)) twin extents
  pub usable : g.failed new ≡ false
  pub room : RoomAfter (creating twin extents) (g.table old) (g.table new)
  pub settled : g.told → IsSettled (g.area new)
  pub twin_read : g.told → Spells twin (reads (held_in (stored g new) (Cbt twin.disk)))
  pub own_read : g.told → Spells l (reads (held_in (stored g new) (Cbt l.disk)))
