-- What is read of a disk's log off a store.
use Rattle.std.specs.Prelude.{◌≡◌, ℕ, ◌*◌, ◌≤◌, ◌==◌, ◌&&◌, List, length, nat_le, Option, Some, None, if◌then◌else◌}
use Rattle.sm_base.specs.declared.names.Name.TheVariants.{Cbt}
use Rattle.sm_disk.specs.Held.{reads}
use Rattle.vg_meta.specs.Tables.{VolumeTable, rows}
use Rattle.vg_volumes.specs.Stored.{Stored}
use Rattle.common_laws.specs.Lists.{◌>>=◌}
use Rattle.sm_log.specs.Logs.{Log, log_sectors}
use Rattle.sm_standing.specs.Contents.{Content, size_of}
use Rattle.sm_standing.specs.Logs.{log_at}

-- what stands in a store, as a read gives it
abbrev pub content_of : Stored → Content
content_of x = record {
  extent = x.site.geometry.extent;
  block = x.site.geometry.block;
  entries = x.site.geometry.entries;
  count = x.site.count;
  table = x.table;
  area = reads x.area;
}

-- the extents of the log of a disk, where its volume is there and not new
abbrev pub filled_extents : VolumeTable → List ℕ → Option ℕ
filled_extents t u = rows t (Cbt u) >>= λ r. if r.fresh then None else Some (length r.extents)

-- a log, where it is of so many pieces and its volume has the sectors for them
abbrev pub fitting : ℕ → ℕ → Log → Option Log
fitting pieces size l = if (length l.bits == pieces) && nat_le (log_sectors pieces) size then Some l else None

-- the log of a disk of so many pieces: none where its volume is not there, is new, has no head or one of another number of pieces, or has
-- too few sectors
unfoldable pub whole_log : Content → List ℕ → ℕ → Option Log
whole_log c u pieces = log_at c u >>= fitting pieces (size_of c (Cbt u))

-- a log as it is in memory, of a disk of so many pieces, beside a table with extents of so many sectors: it has the extents of its volume, which is there and
-- not new, and these have the sectors for it
pub record IsReadOf (t : VolumeTable) (extent : ℕ) (u : List ℕ) (pieces : ℕ) (l : Log) : Type 0 where
  pub own : l.disk ≡ u
  pub extents : filled_extents t u ≡ Some l.extents
  pub long : length l.bits ≡ pieces
  pub room : log_sectors pieces ≤ l.extents * extent
