-- What a change of the area leaves of the volumes: one volume was written, or a table was committed (this project's
-- format). Sectors are those of the area, one extent after another.
use Rattle.std.specs.Prelude.{◌≡◌, ℕ, List}
use Rattle.sm_base.specs.declared.names.Name.{Name}
use Rattle.vg_meta.specs.Tables.{VolumeTable, extents_of}
use Rattle.vg_volumes.specs.Volumes.{IsElsewhere}
use Rattle.sm_standing.specs.Contents.{Content, row}

-- only sectors of this volume may differ
pub record IsWrittenIn (a b : Content) (n : Name) : Type 0 where
  pub extent : b.extent ≡ a.extent
  pub table : b.table ≡ a.table
  pub elsewhere : (p : ℕ) → IsElsewhere a.extent (extents_of (row a n)) p → b.area p ≡ a.area p

-- what a table and an area make of a content with these sizes
abbrev pub with_table : Content → VolumeTable → (ℕ → List ℕ) → Content
with_table c t area = record { extent = c.extent; block = c.block; entries = c.entries; count = c.count; table = t; area = area }
