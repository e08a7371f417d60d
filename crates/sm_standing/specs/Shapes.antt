-- The shape of a repository: what its table, images and records spell, with no attachments and no operation (this
-- project's format).
use Rattle.std.specs.Prelude.{◌≡◌, ℕ, List, [], length, map, Option, Some, None}
use Rattle.std.specs.List.{filter_map, sum}
use Rattle.sm_machine.specs.Operations.{Idle}
use Rattle.vg_meta.specs.Tables.{Row}
use Rattle.sm_machine.specs.Disks.{Disk}
use Rattle.sm_machine.specs.Shapes.{Shape, ImageRow, DiskRecord}
use Rattle.sm_machine.specs.Steps.{State}
use Rattle.sm_standing.specs.Contents.{Content}
use Rattle.sm_standing.specs.Images.{Image, image_of}
use Rattle.sm_standing.specs.Logs.{logs}
use Rattle.sm_standing.specs.Standing.{HasNoStray, disks}

-- the row of an image
abbrev pub image_row : Row → Image → ImageRow
image_row r i = record { name = r.name; hidden = r.hidden; parent = i.parent; size = i.size; slots = i.slots; extents = length r.extents }

-- the row of a volume, where it is an image that is not new
unfoldable pub row_of : Content → Row → Option ImageRow
row_of c r = elim (image_of c r.name) [ None ↦ None | Some i ↦ Some (image_row r i) ]

abbrev pub image_rows : Content → List ImageRow
image_rows c = filter_map (row_of c) c.table.volumes

-- the extents of a volume that is no such image
abbrev pub other_extents : Content → Row → ℕ
other_extents c r = elim (row_of c r) [ None ↦ length r.extents | Some i ↦ 0 ]

-- the record of a disk
abbrev pub disk_record : Disk → DiskRecord
disk_record d = record { uuid = d.uuid; label = d.label; origin = d.origin; read_only = d.read_only }

-- the shape of a content
unfoldable pub shape : Content → Shape
shape c = record {
  sequence = c.table.sequence;
  extent = c.extent;
  block = c.block;
  entries = c.entries;
  extents = c.count;
  others = sum (map (other_extents c) c.table.volumes);
  records = map disk_record (disks c);
  images = image_rows c;
  logs = logs c;
  attached = [];
  op = Idle;
}

-- a shape but for what is attached and what the collector does, of which nothing stands on a device
abbrev pub unattached : Shape → Shape
unattached s = record s { attached = []; op = Idle }

-- what stands here is the machine's state: its disks, and its shape but for what is attached and what the collector does;
-- and each record is that of a disk
pub record IsStateOf (c : Content) (σ : State) : Type 0 where
  pub same_disks : σ.disks ≡ disks c
  pub same_shape : unattached σ.shape ≡ shape c
  pub no_stray : HasNoStray c
