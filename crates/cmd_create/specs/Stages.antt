-- What the writes of a new raw disk leave of its volume and of the records, and its row in the tree (this project's format).
use Rattle.std.specs.Prelude.{◌≡◌, ℕ, ◌<◌, true, false, List, length, Some}
use Rattle.sm_base.specs.declared.names.Name.{Name}
use Rattle.sm_base.specs.declared.names.Name.TheVariants as name
use Rattle.sm_disk.specs.Held.{Held, Wrote, reads}
use Rattle.sm_disk.specs.Sectors.{zeros}
use Rattle.vg_meta.specs.Tables.{VolumeTable, Row, rows}
use Rattle.vg_volumes.specs.Sites.{Site, size_of, volume_of}
use Rattle.sm_record.specs.Records.{record_sector}
use Rattle.sm_record.specs.declared.records.Record.{Record}
use Rattle.sm_mgt.specs.Places.{records_held}
use Rattle.vhd_chain.specs.declared.rows.TreeRow.{TreeRow}
use Rattle.vhd_image.specs.declared.images.Body.TheVariants.{Raw}

-- whatever was written
abbrev pub Anything : Held → Held → Type 0
Anything old new = Unit {0}

-- the first so many sectors read as zeros
abbrev pub HasZeros : ℕ → Held → Held → Type 0
HasZeros n old new = (p : ℕ) → p < n → reads new p ≡ zeros

-- the volume of this name is new, visible, and has so many extents
pub record IsNewVolume (t : VolumeTable) (n : Name) (count : ℕ) : Type 0 where
  pub row : Row
  pub there : rows t n ≡ Some row
  pub fresh : row.fresh ≡ true
  pub visible : row.hidden ≡ false
  pub long : length row.extents ≡ count

-- a read gives zeros in the disk's sectors, and the record in its place
pub record IsFilled (s : Site) (t : VolumeTable) (entry : Record) (place : ℕ) (old new : Held) : Type 0 where
  pub sectors : (p : ℕ) → p < size_of s t (name.Raw entry.uuid) → reads (volume_of s t new (name.Raw entry.uuid)) p ≡ zeros
  pub records : Wrote place (record_sector entry) (records_held s t old) (records_held s t new)

-- the row of a raw image that is visible
abbrev pub raw_row : List ℕ → ℕ → ℕ → TreeRow
raw_row u extents sectors = record { image = Raw (name.Raw u) sectors; hidden = false; extents = extents }
