-- What an opening makes of the worked contents: shapes.
use Rattle.std.specs.Prelude.{ℕ, Bool, true, false, List, [], ◌∷◌, map, Option, Some, None}
use Rattle.sm_base.specs.declared.names.Name.{Name}
use Rattle.sm_base.specs.declared.names.Name.TheVariants.{Vhd}
use Rattle.sm_machine.specs.Operations.{Idle}
use Rattle.sm_machine.specs.Disks.{Disk}
use Rattle.sm_machine.specs.Shapes.{Shape, ImageRow}
use Rattle.sm_standing.specs.Images.{Image}
use Rattle.sm_standing.specs.Shapes.{disk_record}
use Rattle.examples_moments.specs.Moments.{top, empty_over}
use Rattle.examples_moments.specs.Worked.{first, second, base, first_record}

-- one visible image on five extents, beside the sixteen of the records, at a sequence number
abbrev pub one_disk_shape : ℕ → Image → Shape
one_disk_shape sequence i = record {
  sequence = sequence;
  extent = 32;
  block = 8;
  entries = 64;
  extents = 64;
  others = 16;
  records = record { uuid = first_record.uuid; label = first_record.label; origin = first_record.origin; read_only = first_record.read_only } ∷ [];
  images = record { name = Vhd first; hidden = false; parent = i.parent; size = i.size; slots = i.slots; extents = 5 } ∷ [];
  logs = [];
  attached = [];
  op = Idle;
}

-- the row of an image of five extents under a parent
abbrev pub worked_row : Name → Bool → Option Name → Image → ImageRow
worked_row n hidden parent i = record { name = n; hidden = hidden; parent = parent; size = i.size; slots = i.slots; extents = 5 }

-- the disk and the hidden image beside it are both over the base, at sequence number 5
abbrev pub relinked_shape : List Disk → Shape
relinked_shape ds = record {
  sequence = 5;
  extent = 32;
  block = 8;
  entries = 64;
  extents = 64;
  others = 16;
  records = map disk_record ds;
  images = worked_row (Vhd first) false (Some (Vhd base)) (empty_over second)
      ∷ worked_row (Vhd second) true (Some (Vhd base)) (empty_over base)
      ∷ worked_row (Vhd base) true None (top 17)
      ∷ [];
  logs = [];
  attached = [];
  op = Idle;
}
