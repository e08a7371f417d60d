-- The logs of tracked disks that stand in a repository (this project's format). The log of a disk is the volume CBT- with the disk's UUID.
-- Its first sector is the head, from its second sector on it has one bit for each piece of the disk, the first piece in the most
-- significant bit of the first byte. A log that is new, and one whose disk is not there, is no log of the repository's.
use Rattle.std.specs.Prelude.{◌≡◌, ℕ, ◌+◌, ◌/◌, ◌%◌, Bool, false, List, length, map, Option, Some, None, IsSome, is_some, if◌then◌else◌}
use Rattle.std.specs.List.{filter, filter_map}
use Rattle.sm_base.specs.declared.names.Name.{Name}
use Rattle.sm_base.specs.declared.names.Name.TheVariants.{Mgt, Vhd, Raw, Old, Cbt, Clone, Inflate, Coalesce, Relink, Leaf}
use Rattle.vg_meta.specs.Tables.{Row}
use Rattle.vhd_map.specs.Bitmaps.{is_set}
use Rattle.common_laws.specs.Lists.{In, numbers, ◌>>=◌}
use Rattle.sm_log.specs.Heads.{head_in}
use Rattle.sm_log.specs.Logs.{Log, log_of, sector_bits}
use Rattle.sm_standing.specs.Contents.{Content, row, sectors_of}
use Rattle.sm_standing.specs.Standing.{standing_volume}

-- whether the bit of a piece is set in the sectors of a log's volume
abbrev pub bit_in : (ℕ → List ℕ) → ℕ → Bool
bit_in sectors k = is_set (sectors (1 + k / sector_bits)) (k % sector_bits)

-- the log of a disk that these sectors, of so many extents, spell: where the first of them is a head
unfoldable pub log_read : List ℕ → ℕ → (ℕ → List ℕ) → Option Log
log_read u extents sectors = head_in (sectors 0)
    >>= λ h. Some (record { disk = u; extents = extents; tag = h.tag; since = h.since; bits = map (bit_in sectors) (numbers 0 h.pieces) })

-- that of a volume which is not new
abbrev pub log_in : Content → List ℕ → Row → Option Log
log_in c u r = if r.fresh then None else log_read u (length r.extents) (sectors_of c (Cbt u))

-- the log of a disk, whether the disk is there or not
unfoldable pub log_at : Content → List ℕ → Option Log
log_at c u = row c (Cbt u) >>= λ r. log_in c u r

-- that of the volume of a name
abbrev pub log_named : Content → Name → Option Log
log_named c (Cbt u) = log_at c u
log_named c Mgt = None
log_named c (Vhd u) = None
log_named c (Raw u) = None
log_named c (Old u) = None
log_named c (Clone disk base twin) = None
log_named c (Inflate image extents) = None
log_named c (Coalesce child parent) = None
log_named c (Relink child parent) = None
log_named c (Leaf leaf parent) = None

-- all of them, in order of their volumes' names, which is that of their disks' UUIDs
unfoldable pub logs_in : Content → List Log
logs_in c = filter_map (λ r. log_named c r.name) c.table.volumes

-- the logs of a content whose disks are there, in order of name
unfoldable pub logs : Content → List Log
logs c = filter (λ l. is_some (standing_volume c.table l.disk)) (logs_in c)

-- a read of the volume of a disk's log gives it; where the disk has none, no volume of its log is there but new ones
pub record IsLogOf (c : Content) (u : List ℕ) (o : Option Log) : Type 0 where
  pub read : log_at c u ≡ o
  pub there : (r : Row) → In r c.table.volumes → r.name ≡ Cbt u → r.fresh ≡ false → IsSome o

-- the logs of a content are these: a read of the volume of each disk's log gives it, and no other volume of a log is there but new ones
abbrev pub IsLogged : Content → List Log → Type 0
IsLogged c ls = (u : List ℕ) → IsLogOf c u (log_of u ls)
