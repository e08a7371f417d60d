-- What a session has in memory between two steps, and the machine's shape of it (this project's own).
use Rattle.std.specs.Prelude.{ℕ, ◌+◌, Bool, false, ◌||◌, is_some, List, [], ◌∷◌, map, length, Option, None, Some, if◌then◌else◌}
use Rattle.std.specs.List.{filter, list_any}
use Rattle.sm_base.specs.declared.names.Name.{Name}
use Rattle.sm_base.specs.declared.names.Name.TheVariants as name
use Rattle.sm_log.specs.Logs.{Log, log_extents}
use Rattle.sm_machine.specs.Operations.{Op}
use Rattle.sm_machine.specs.Operations as op
use Rattle.vg_layout.specs.Places.{record_extents}
use Rattle.vg_meta.specs.Tables.{VolumeTable, Row}
use Rattle.vg_volumes.specs.Sites.{Site}
use Rattle.sm_machine.specs.Shapes.{Shape, ImageRow, DiskRecord, image_uuid, is_image_of}
use Rattle.sm_machine.specs.Steps.{with_record}
use Rattle.sm_record.specs.declared.records.Record.{Record}
use Rattle.sm_refs.specs.Attached.{Attached}
use Rattle.vhd_image.specs.Bodies.{sector_count, parent_name}
use Rattle.vhd_chain.specs.Reading.{slots_of}
use Rattle.vhd_chain.specs.Trees.{row_name, tree_row}
use Rattle.sm_ready.specs.declared.memory.Memory.{Memory}
use Rattle.vhd_chain.specs.declared.rows.TreeRow.{TreeRow}

-- the images in order of name, the places of the records, the logs of tracked disks in order of UUID, the attachments, and the
-- collector's operation
pub record Known : Type 0 where
  pub rows : List TreeRow
  pub places : List (Option Record)
  pub logs : List Log
  pub attached : Attached
  pub op : Op

-- what a session's memory says
abbrev pub known : Memory → Known
known m = record { rows = m.tree.rows; places = m.records; logs = m.logs; attached = m.attached; op = m.operation }

-- an image as the machine has it
abbrev pub machine_row : TreeRow → ImageRow
machine_row r = record { name = row_name r; hidden = r.hidden; parent = parent_name r.image; size = sector_count r.image; slots = slots_of r.image; extents = r.extents }

-- a disk's record as the machine has it
abbrev pub machine_record : Record → DiskRecord
machine_record r = record { uuid = r.uuid; label = r.label; origin = r.origin; read_only = r.read_only }

-- whether a UUID is that of a visible image in memory
abbrev pub is_shown : List TreeRow → List ℕ → Bool
is_shown rows u = list_any (λ r. is_image_of u (machine_row r)) rows

-- whether an image in memory has the UUID, visible or hidden
abbrev pub has_image : List TreeRow → List ℕ → Bool
has_image rows u = is_some (tree_row rows (name.Vhd u)) || is_some (tree_row rows (name.Raw u))

abbrev pub is_shown_place : List TreeRow → Option Record → Bool
is_shown_place rows None = false
is_shown_place rows (Some r) = is_shown rows r.uuid

-- the places whose records are of visible images: the others are free, or stray
abbrev pub shown_places : List TreeRow → List (Option Record) → List (Option Record)
shown_places rows places = filter (is_shown_place rows) places

-- the records of some places, in order of UUID
unfoldable pub records_in : List (Option Record) → List DiskRecord
records_in [] = []
records_in (None ∷ places) = records_in places
records_in (Some r ∷ places) = with_record (machine_record r) (records_in places)

-- the shape of what is in memory, beside a table
unfoldable pub shape_in : Site → VolumeTable → Known → Shape
shape_in s t m = record {
  sequence = t.sequence;
  extent = s.geometry.extent;
  block = s.geometry.block;
  entries = s.geometry.entries;
  extents = s.count;
  others = log_extents m.logs + record_extents s.geometry.extent;
  records = records_in (shown_places m.rows m.places);
  images = map machine_row m.rows;
  logs = m.logs;
  attached = map (λ a. record { disk = a.0; mode = a.1 }) m.attached.disks;
  op = m.op;
}

-- the journal entry that an operation has in the table
abbrev pub entry_of : Op → List Name
entry_of op.Idle = []
entry_of (op.Copy v p cursor) = name.Coalesce (image_uuid v) (image_uuid p) ∷ []
entry_of (op.Relink v p) = name.Relink (image_uuid v) (image_uuid p) ∷ []
entry_of (op.Leaf l p cursor) = name.Leaf (image_uuid l) (image_uuid p) ∷ []
entry_of (op.Live l p cursor dirty) = name.Leaf (image_uuid l) (image_uuid p) ∷ []

-- what the table, and what memory, says of an image's volume: whether it is hidden, and how many extents it has
pub record Face : Type 0 where
  pub hidden : Bool
  pub extents : ℕ

-- a new volume is no image yet
abbrev pub row_face : Option Row → Option Face
row_face None = None
row_face (Some r) = if r.fresh then None else Some (record { hidden = r.hidden; extents = length r.extents })

abbrev pub tree_face : Option TreeRow → Option Face
tree_face None = None
tree_face (Some r) = Some (record { hidden = r.hidden; extents = r.extents })

-- of a log: its volume is not hidden
abbrev pub log_face : Option Log → Option Face
log_face None = None
log_face (Some l) = Some (record { hidden = false; extents = l.extents })
