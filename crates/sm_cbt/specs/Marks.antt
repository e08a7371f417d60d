-- What is written into a log's volume where pieces of its disk are marked, and what lasts of it.
use Rattle.std.specs.Prelude.{◌≡◌, ℕ, ◌+◌, ◌-◌, ◌*◌, ◌/◌, ◌≤◌, Bool, List, length}
use Rattle.sm_base.specs.declared.names.Name.TheVariants.{Cbt}
use Rattle.sm_disk.specs.Held.{IsSettled, Reaches, reads}
use Rattle.vg_volumes.specs.Stored.{held_in, stored}
use Rattle.vg_volumes.specs.declared.stores.Store.{Ghosts}
use Rattle.sm_log.specs.Coded.{packed_sector}
use Rattle.sm_log.specs.Logs.{Log, piece_sectors, sector_bits}

-- the sectors of a disk whose bits stand in one sector of its log
abbrev pub span : ℕ
span = sector_bits * piece_sectors

-- so many sectors of the disk from one on lie in pieces that have a bit in its log
abbrev pub IsWithinLog : ℕ → ℕ → Log → Type 0
IsWithinLog sector count l = sector + count ≤ piece_sectors * length l.bits

-- this place of a log's volume has a bit of the pieces that so many sectors of the disk from one on reach
pub record IsMarkPlace (sector count p : ℕ) : Type 0 where
  pub from : 1 + sector / span ≤ p
  pub to : p ≤ 1 + (sector + count - 1) / span

-- in such a place stand the bits
pub record IsMark (bits : List Bool) (sector count p : ℕ) (v : List ℕ) : Type 0 where
  pub place : IsMarkPlace sector count p
  pub value : v ≡ packed_sector (p - 1) bits

-- a stop, or a read, shows at each place of the log's volume what it might have shown before, or the bits
abbrev pub Marks : {S : Type 0} → Ghosts S → Log → ℕ → ℕ → S → S → Type 0
Marks g l sector count old new = g.told → Reaches (IsMark l.bits sector count) (held_in (stored g old) (Cbt l.disk)) (held_in (stored g new) (Cbt l.disk))

-- nothing is pending, and a read gives the bits
pub record Lasts {S : Type 0} (g : Ghosts S) (l : Log) (sector count : ℕ) (s : S) : Type 0 where
  pub settled : g.told → IsSettled (g.area s)
  pub marks : g.told → (p : ℕ) → IsMarkPlace sector count p → reads (held_in (stored g s) (Cbt l.disk)) p ≡ packed_sector (p - 1) l.bits
