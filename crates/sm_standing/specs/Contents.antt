-- What stands on the extents of a volume group: its table of volumes, and the sectors of all extents one after
-- another (this project's format). A volume's sectors are read off its extents. The first 512 sectors of the volume
-- MGT are the disks' records.
use Rattle.std.specs.Prelude.{ℕ, Bool, List, Option, Some, None}
use Rattle.std.specs.List.{filter_map, find}
use Rattle.std.specs.Str.{bytes_eq}
use Rattle.sm_base.specs.declared.names.Name.{Name}
use Rattle.sm_base.specs.declared.names.Name.TheVariants.{Mgt}
use Rattle.vg_meta.specs.Tables.{VolumeTable, Row, rows, extents_of}
use Rattle.vg_volumes.specs.Volumes.{piece, span}
use Rattle.common_laws.specs.Lists.{numbers}
use Rattle.sm_record.specs.declared.records.Record.{Record}
use Rattle.sm_record.specs.declared.records.Reading.{Reading}
use Rattle.sm_record.specs.declared.records.Reading.TheVariants.{Free, Taken, Damaged}
use Rattle.sm_record.specs.Records.{reading}

-- extent and block are in sectors, entries is the number of entries of each block allocation table
pub record Content : Type 0 where
  pub extent : ℕ
  pub block : ℕ
  pub entries : ℕ
  pub count : ℕ
  pub table : VolumeTable
  pub area : ℕ → List ℕ

-- the volume of this name
abbrev pub row : Content → Name → Option Row
row c n = rows c.table n

-- the sectors of the volume of a name, from its first on; none where there is no such volume
unfoldable pub sectors_of : Content → Name → ℕ → List ℕ
sectors_of c n = piece c.extent (extents_of (row c n)) c.area

-- how many sectors the volume of a name has
abbrev pub size_of : Content → Name → ℕ
size_of c n = span c.extent (extents_of (row c n))

-- the number of records
abbrev pub record_count : ℕ
record_count = 512

-- what the record sectors read as, in order of place
abbrev pub reading_at : Content → ℕ → Reading
reading_at c k = reading (sectors_of c Mgt k)

abbrev pub taken : Reading → Option Record
taken Free = None
taken (Taken r) = Some r
taken Damaged = None

-- the records, in order of place
unfoldable pub records : Content → List Record
records c = filter_map (λ k. taken (reading_at c k)) (numbers 0 record_count)

-- whether a record is that of a UUID
abbrev pub is_record_of : List ℕ → Record → Bool
is_record_of u r = bytes_eq r.uuid u

-- the record of a disk: the one in the least place
abbrev pub record_of : Content → List ℕ → Option Record
record_of c u = find (is_record_of u) (records c)
