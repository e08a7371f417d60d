-- What a new VHD disk asks of table and memory, what it makes of them, and what the writes in between leave (this project's
-- format).
use Rattle.std.specs.Prelude.{◌≡◌, ℕ, ◌+◌, ◌-◌, ◌*◌, ◌<◌, ◌++◌, true, false, List, length, replicate, None, IsSome}
use Rattle.sm_base.specs.Names.{base_uuid}
use Rattle.sm_base.specs.Numbers.{div_up, thin}
use Rattle.sm_base.specs.declared.names.Name.{Name}
use Rattle.sm_base.specs.declared.names.Name.TheVariants as name
use Rattle.sm_base.specs.declared.sizes.Geometry.{Geometry}
use Rattle.sm_disk.specs.Held.{Held, Keeps, Wrote, reads}
use Rattle.vg_meta.specs.Roomy.{table_alone}
use Rattle.vg_meta.specs.Tables.{VolumeTable}
use Rattle.vg_meta.specs.Changes.{AreFree, applied}
use Rattle.vg_meta.specs.declared.changes.Change.TheVariants.{Create, Mark}
use Rattle.vg_meta.specs.declared.changes.Tag.TheVariants.{Fresh}
use Rattle.vg_extents.specs.Fits.{AreLeastFree}
use Rattle.vg_volumes.specs.Sites.{Site, size_of, volume_of}
use Rattle.vg_volumes.specs.declared.stores.Store.{Ghosts}
use Rattle.vhd_fields.specs.Footers.{footer_bytes}
use Rattle.vhd_fields.specs.Headers.{header_bytes}
use Rattle.vhd_layout.specs.Images.{IsImage}
use Rattle.vhd_layout.specs.Layouts.{Sectors}
use Rattle.vhd_volumes.specs.declared.heads.Head.{Head}
use Rattle.vhd_volumes.specs.Truth.{layout_in}
use Rattle.vhd_image.specs.Made.{new_head}
use Rattle.vhd_image.specs.declared.images.Body.TheVariants.{Vhd}
use Rattle.vhd_chain.specs.declared.rows.TreeRow.{TreeRow}
use Rattle.sm_machine.specs.Refusals.{refusal}
use Rattle.sm_machine.specs.declared.commands.Command.TheVariants as command
use Rattle.sm_record.specs.Records.{IsRecord, record_sector}
use Rattle.sm_record.specs.declared.records.Record.{Record}
use Rattle.sm_mgt.specs.Places.{place_for, records_held}
use Rattle.sm_ready.specs.Known.{Known, known, shape_in}
use Rattle.sm_ready.specs.declared.memory.Memory.{Memory}
use Rattle.cmd_create.specs.Making.{entry_of}

-- the sectors of a VHD disk of so many bytes: rounded up to the block
abbrev pub vhd_sectors : ℕ → ℕ → ℕ
vhd_sectors block size = div_up size (512 * block) * block

-- the extents of a VHD image without slots
abbrev pub vhd_extents : Geometry → ℕ
vhd_extents g = thin g.extent g.block g.entries 0

-- a VHD disk of so many sectors may be made on these extents: they are free, and a command that asks for one is not refused
pub record IsForVhd (s : Site) (t : VolumeTable) (m : Known) (u label es : List ℕ) (sectors : ℕ) : Type 0 where
  pub size : ℕ
  pub accepted : refusal (shape_in s t m) (command.Create u size false label) ≡ None
  pub rounded : sectors ≡ vhd_sectors s.geometry.block size
  pub many : length es ≡ vhd_extents s.geometry
  pub extents_free : AreFree s.count t.volumes es

-- A VHD disk of so many sectors may be made of a record on these extents, and all memory for it was taken: room for a row in
-- the table, and a place for the record.
pub record CanMakeVhd {S : Type 0} (g : Ghosts S) (store : S) (m : Memory) (entry : Record) (es : List ℕ) (sectors : ℕ) : Type 0 where
  pub disk : IsForVhd (g.site store) (table_alone (g.table store)) (known m) entry.uuid entry.label es sectors
  pub row : 0 < (g.table store).spare
  pub place : IsSome (place_for m.records entry.uuid)
  pub proper : IsRecord entry
  pub plain : entry ≡ entry_of entry.uuid entry.label

-- the table with a volume of this name, which was new and is not any more
abbrev pub table_with : VolumeTable → Name → List ℕ → VolumeTable
table_with t n extents = applied (applied t (Create n true extents)) (Mark n Fresh false)

-- the unique id of a new disk's image, by the number that the table has once its volume is made
abbrev pub image_uid : VolumeTable → List ℕ
image_uid t = base_uuid (t.sequence + 1)

-- the head of a new disk's image: made now, of so many sectors, with this unique id and no parent
abbrev pub disk_head : Geometry → List ℕ → ℕ → ℕ → List ℕ → Head
disk_head g u now sectors uid = new_head g (name.Vhd u) now sectors uid None

-- the head of a new disk's image, by the table in front of the commit that makes its volume
abbrev pub made_head : Site → VolumeTable → List ℕ → ℕ → ℕ → Head
made_head s t u now sectors = disk_head s.geometry u now sectors (image_uid t)

-- the head of a new disk's image, by the table in which its volume was made
abbrev pub begun_head : Site → VolumeTable → List ℕ → ℕ → ℕ → Head
begun_head s t u now sectors = disk_head s.geometry u now sectors (base_uuid t.sequence)

-- the row of a VHD image that is visible and has no slots
abbrev pub vhd_row : Geometry → Head → ℕ → TreeRow
vhd_row g head extents = record { image = Vhd head (replicate g.entries None); hidden = false; extents = extents }

-- the row of a new disk of so many sectors, made now in this table
abbrev pub made_row : Site → VolumeTable → List ℕ → ℕ → ℕ → TreeRow
made_row s t u now sectors = vhd_row s.geometry (made_head s t u now sectors) (vhd_extents s.geometry)

-- the footers in the first and in the last of so many sectors, and the header, are those of this head, byte for byte
pub record HasHead (n : ℕ) (head : Head) (r : Sectors) : Type 0 where
  pub first : r 0 ≡ footer_bytes head.footer
  pub header : r 1 ++ r 2 ≡ header_bytes head.header
  pub last : r (n - 1) ≡ footer_bytes head.footer

-- A read gives an image with this head and no slots, and its head byte for byte; the records were kept, and then this one
-- was put into its place.
pub record IsImaged (s : Site) (t : VolumeTable) (head : Head) (entry : Record) (place : ℕ) (old new : Held) : Type 0 where
  pub image : IsImage (layout_in s.geometry head.footer (size_of s t head.volume)) (reads (volume_of s t new head.volume)) head.footer head.header (λ b. None)
  pub bytes : HasHead (size_of s t head.volume) head (reads (volume_of s t new head.volume))
  pub between : Held
  pub kept : Keeps (records_held s t old) between
  pub records : Wrote place (record_sector entry) between (records_held s t new)

-- the table has a new VHD disk, on as many extents as its image has without slots: the least that were free, rising
pub record IsVhdOnLeast (s : Site) (t : VolumeTable) (u : List ℕ) (next : VolumeTable) : Type 0 where
  pub extents : List ℕ
  pub least : AreLeastFree s.count (vhd_extents s.geometry) t extents
  pub made : next ≡ table_with t (name.Vhd u) extents
