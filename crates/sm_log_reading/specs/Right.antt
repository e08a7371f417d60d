-- Which logs of disks are right, and the logs in memory that come of them.
use Rattle.std.specs.Prelude.{◌≡◌, ◌≢◌, ℕ, ◌<◌, ◌==◌, ◌&&◌, ◌||◌, not, Bool, List, [], ◌∷◌, nat_le, Option, Some, None, Result, Ok, Err, is_some, is_none, if◌then◌else◌}
use Rattle.std.specs.List.{list_any}
use Rattle.vg_meta.specs.Tables.{VolumeTable}
use Rattle.vg_volumes.specs.Stored.{Faults}
use Rattle.vg_volumes.specs.declared.stores.Store.{Ghosts}
use Rattle.common_laws.specs.Lists.{In, ◌>>=◌}
use Rattle.sm_log.specs.Logs.{Log, log_of, with_log}
use Rattle.sm_standing.specs.Contents.{Content}
use Rattle.sm_log_reading.specs.Reading.{IsReadOf, filled_extents, whole_log}
use Rattle.sm_log_reading.specs.declared.logs.DiskPieces.{DiskPieces}
use Rattle.sm_log_reading.specs.declared.logs.LogFault.{LogFault}
use Rattle.sm_log_reading.specs.declared.logs.LogFault.TheVariants as fault

-- whether the tag of a log or its since is not below the sequence number, or an earlier log has the same tag other than 0
abbrev pub is_tag_wrong : ℕ → List Log → Log → Bool
is_tag_wrong sequence earlier l = nat_le sequence l.tag || nat_le sequence l.since || (not (l.tag == 0) && list_any (λ k. k.tag == l.tag) earlier)

-- whether a disk has a log that is not new, and that is not among those read
abbrev pub is_to_read : VolumeTable → List Log → DiskPieces → Bool
is_to_read t earlier d = is_some (filled_extents t d.disk) && is_none (log_of d.disk earlier)

-- a log that is there: right where it is whole, and so are its tag and its since
abbrev pub judged : ℕ → List Log → List ℕ → Option Log → Result (Option Log) (List ℕ)
judged sequence earlier u None = Err u
judged sequence earlier u (Some l) = if is_tag_wrong sequence earlier l then Err u else Ok (Some l)

-- that of a disk
abbrev pub judged_log : Content → List Log → DiskPieces → Result (Option Log) (List ℕ)
judged_log c earlier d = judged c.table.sequence earlier d.disk (whole_log c d.disk d.pieces)

-- the log of a disk, behind earlier ones, where there is one to read; an error with the disk where it is wrong
unfoldable pub next_log : Content → List Log → DiskPieces → Result (Option Log) (List ℕ)
next_log c earlier d = if is_to_read c.table earlier d then judged_log c earlier d else Ok None

-- logs, with one more in its place where there is one
abbrev pub with_next : Option Log → List Log → List Log
with_next None logs = logs
with_next (Some l) logs = with_log l logs

-- the logs of some disks, behind earlier ones, each in its place; or the first disk whose log is wrong
unfoldable pub logs_behind : Content → List Log → List DiskPieces → Result (List Log) (List ℕ)
logs_behind c earlier [] = Ok earlier
logs_behind c earlier (d ∷ ds) = elim (next_log c earlier d) [ Ok found ↦ logs_behind c (with_next found earlier) ds | Err u ↦ Err u ]

-- the logs of some disks; or the first disk whose log is wrong: its volume is there and not new, and its first sector is no head, or one of another number of pieces than
-- the disk's, or the volume has too few sectors for them, or the tag or the since is not below the sequence number, or an earlier disk's log has the same tag other than 0
abbrev pub logs_read : Content → List DiskPieces → Result (List Log) (List ℕ)
logs_read c ds = logs_behind c [] ds

-- the logs in memory are those of some disks, beside a table with extents of so many sectors: each disk has one whose log's volume is there and not new, and no
-- other has
pub record AreReadOf (t : VolumeTable) (extent : ℕ) (ds : List DiskPieces) (ls : List Log) : Type 0 where
  pub found : (d : DiskPieces) → In d ds → filled_extents t d.disk ≡ (log_of d.disk ls >>= λ l. Some l.extents)
  pub from : (l : Log) → In l ls → (d : DiskPieces) × In d ds × IsReadOf t extent d.disk d.pieces l

-- why logs were not read: the log of a disk is wrong, where the content is told; a fault of the device; memory
abbrev pub IsNotRead : {S : Type 0} → Ghosts S → (List ℕ → Type 0) → S → S → LogFault → Type 0
IsNotRead g Wrong old new (fault.Log u) = g.told → Wrong u
IsNotRead g Wrong old new fault.Device = Faults g old new
IsNotRead g Wrong old new fault.NoMemory = Unit {0}

-- logs in memory whose numbers are below the sequence number, and no two of which have one tag other than 0
pub record AreNumbered (sequence : ℕ) (ls : List Log) : Type 0 where
  pub tag : (l : Log) → In l ls → l.tag < sequence
  pub since : (l : Log) → In l ls → l.since < sequence
  pub one_tag : (a b : Log) → In a ls → In b ls → a.tag ≡ b.tag → a.tag ≢ 0 → a ≡ b
