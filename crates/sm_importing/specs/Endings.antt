-- The end of an import: what is asked of the new image, the calls that it makes, and what they leave (this project's own).
use Rattle.std.specs.Prelude.{◌≡◌, ℕ, false, List, [], ◌∷◌, None, unwrap_or}
use Rattle.sm_base.specs.declared.names.Name.{Name}
use Rattle.sm_base.specs.declared.names.Name.TheVariants.{Mgt, Vhd}
use Rattle.sm_disk.specs.Held.{Held, Torn, Wrote, reads}
use Rattle.vg_meta.specs.Changes.{applied}
use Rattle.vg_meta.specs.Roomy.{table_alone}
use Rattle.vg_meta.specs.Tables.{VolumeTable, extents_of, rows}
use Rattle.vg_meta.specs.declared.changes.Change.TheVariants.{Mark}
use Rattle.vg_meta.specs.declared.changes.Tag.TheVariants.{Fresh}
use Rattle.vg_volumes.specs.Sites.{Site, size_of, volume_of}
use Rattle.vg_volumes.specs.Volumes.{SameElsewhere}
use Rattle.vg_volumes.specs.declared.stores.Store.{Ghosts}
use Rattle.sm_machine.specs.Disks.{Disk, with_disk}
use Rattle.sm_mgt.specs.Places.{place_for, records_held}
use Rattle.sm_record.specs.Records.{record_sector}
use Rattle.sm_record.specs.declared.records.Record.{Record}
use Rattle.sm_standing.specs.Standing.{disk_in, disks}
use Rattle.vhd_chain.specs.declared.rows.TreeRow.{TreeRow}
use Rattle.vhd_image.specs.Bodies.{IsVhd, StandsIn, parent_name, volume_name}
use Rattle.vhd_image.specs.Steady.{IsSteady}
use Rattle.vhd_image.specs.declared.images.Body.{Body}
use Rattle.sm_ready.specs.Done.{HasDoneFrom, at_rest}
use Rattle.sm_ready.specs.Known.{Known}
use Rattle.sm_ready.specs.Stores.{StoreLeaves, content_now, store_content}
use Rattle.sm_ready.specs.declared.memory.Memory.{Memory}
use Rattle.sm_calls.specs.Calls.{Call, Commit, Settle, Work}
use Rattle.sm_importing.specs.Imports.{ImportsSince}

-- the table once the volume of this name is not new any more
abbrev pub marked : VolumeTable → Name → VolumeTable
marked t n = applied t (Mark n Fresh false)

-- a VHD image in the volume of this name, that stands in all of it and reads through no other
pub record IsImageIn (s : Site) (t : VolumeTable) (n : Name) (image : Body) : Type 0 where
  pub vhd : IsVhd image
  pub named : volume_name image ≡ n
  pub root : parent_name image ≡ None
  pub stands : StandsIn s.geometry (size_of s t n) image

-- the image is steady in the volume of this name, once all that was written lasts
abbrev pub IsSteadyAtRest : {S : Type 0} → Ghosts S → S → Name → Body → Type 0
IsSteadyAtRest g x n image = g.told → IsSteady (g.site x).geometry (size_of (g.site x) (table_alone (g.table x)) n) (volume_of (g.site x) (table_alone (g.table x)) (at_rest (reads (g.area x))) n) image

-- the row of an image that is visible, in the tree
abbrev pub row_of : Body → ℕ → TreeRow
row_of image extents = record { image = image; hidden = false; extents = extents }

-- the place of a record
abbrev pub place_of : Memory → Record → ℕ
place_of m r = unwrap_or (place_for m.records r.uuid) 0

-- ---- the calls

-- a record was to be put into this place
pub record MayPut (s : Site) (t : VolumeTable) (k : ℕ) (r : Record) (old new : Held) : Type 0 where
  pub beside : SameElsewhere s.geometry.extent (extents_of (rows t Mgt)) old new
  pub torn : Torn k (record_sector r) (records_held s t old) (records_held s t new)

-- and was put
abbrev pub HasPut : Site → VolumeTable → ℕ → Record → Held → Held → Type 0
HasPut s t k r old new = Wrote k (record_sector r) (records_held s t old) (records_held s t new)

-- the record is put, and all is made last
abbrev pub record_calls : Site → VolumeTable → ℕ → Record → List Call
record_calls s t k r = Work (MayPut s t k r) (HasPut s t k r) ∷ Settle ∷ []

-- and then the mark is taken away
abbrev pub end_calls : Site → VolumeTable → ℕ → Record → List Call
end_calls s t k r = Work (MayPut s t k r) (HasPut s t k r) ∷ Settle ∷ Commit (Mark (Vhd r.uuid) Fresh false) ∷ []

-- ---- the disk

-- this disk is read where the volume is not new any more, whatever is written into the volume of records
abbrev pub IsDiskOf : {S : Type 0} → Ghosts S → S → Record → Disk → Type 0
IsDiskOf g x r made = (area : Held) → SameElsewhere (g.site x).geometry.extent (extents_of (rows (table_alone (g.table x)) Mgt)) (g.area x) area
    → disk_in (content_now (g.site x) (marked (table_alone (g.table x)) (Vhd r.uuid)) (at_rest (reads area))) r.uuid r (Vhd r.uuid) ≡ made

-- Since whatever store the import began: a stop leaves the disks from before, or these and the one that is read in the volume; where the
-- end succeeds (ok) the store is ready for them.
abbrev pub CompletesImporting : {S : Type 0} → Ghosts S → Record → Memory → S → S → Known → Type 0 → Type 0
CompletesImporting {S} g r m old new now ok = (a : S) (made : Disk) → ImportsSince g r.uuid m a old → g.told → IsDiskOf g old r made
    → HasDoneFrom (g.site a) (table_alone (g.table new)) (g.area new) now (StoreLeaves g a) (StoreLeaves g new) ok (disks (store_content g a)) (with_disk made (disks (store_content g a)))
