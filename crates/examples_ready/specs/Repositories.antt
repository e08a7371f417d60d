-- Six worked repositories, each with its table, its memory, its sectors and the machine's shape of it: two disks by
-- themselves; a disk and its snapshot over their base; a copy that is under way; a link after it; a disk that a guest
-- writes to; and the fold of the leaf of an attached disk. Images lie behind the records, which have extents 0 to 15.
use Rattle.std.specs.Prelude.{ℕ, ◌==◌, true, false, List, [], ◌∷◌, replicate, codes, Option, Some, None, if◌then◌else◌}
use Rattle.sm_base.specs.declared.names.Name.{Name}
use Rattle.sm_base.specs.declared.names.Name.TheVariants as name
use Rattle.sm_base.specs.declared.names.Name.TheVariants.{Raw, Vhd, Coalesce}
use Rattle.sm_machine.specs.Operations.{Op, Idle, Copy, Relink, Live}
use Rattle.sm_base.specs.declared.operations.Mode.TheVariants.{Rw}
use Rattle.common_laws.specs.Lists.{numbers}
use Rattle.sm_disk.specs.Held.{Held}
use Rattle.sm_record.specs.declared.records.Record.{Record}
use Rattle.vg_meta.specs.Tables.{VolumeTable}
use Rattle.sm_machine.specs.Shapes.{Shape, ImageRow, DiskRecord}
use Rattle.sm_refs.specs.Attached.{Attached}
use Rattle.vhd_image.specs.declared.images.Body.TheVariants as body
use Rattle.vhd_chain.specs.declared.rows.TreeRow.{TreeRow}
use Rattle.sm_ready.specs.Done.{at_rest}
use Rattle.sm_ready.specs.Known.{Known}
use Rattle.examples_vhd.specs.SmallImages.{empty}
use Rattle.examples_standing.specs.SmallContents.{record_row}
use Rattle.examples_moments.specs.Worked.{first, second, base, first_record, second_record, area_of, image_row, table_with}
use Rattle.examples_moments.specs.WorkedImages.{top_image, filled_child, empty_child, sector_of}
use Rattle.examples_ready.specs.WorkedRows.{top_head, head_over, no_slots, first_slot, vhd_row, raw_row}

-- so many records in the first places, of 512
abbrev pub two_places : Record → Record → List (Option Record)
two_places r s = Some r ∷ Some s ∷ replicate 510 None

-- nothing is attached
abbrev pub unattached : Attached
unattached = record { disks = []; counts = []; room = 0 }

-- ---- two disks by themselves: a VHD disk, whose image holds sector 0, and a raw one

abbrev pub labelled : List ℕ → Record
labelled label = record { uuid = second; label = label; origin = None; read_only = false }

abbrev pub raw_record : Record
raw_record = labelled (codes "b")

abbrev pub plain_table : VolumeTable
plain_table = record {
  sequence = 4;
  volumes = record { name = Raw second; hidden = false; fresh = false; extents = 21 ∷ [] }
      ∷ record_row (numbers 0 16)
      ∷ image_row false (Vhd first) 16
      ∷ [];
}

-- memory with these slots of the VHD disk, and this label of the raw one
abbrev pub rows_with : List (Option ℕ) → List TreeRow
rows_with slots = raw_row second ∷ vhd_row false (top_head first) slots ∷ []

abbrev pub known_with : List (Option ℕ) → List ℕ → Known
known_with slots label = record { rows = rows_with slots; places = two_places first_record (labelled label); logs = []; attached = unattached; op = Idle }

abbrev pub plain_rows : List TreeRow
plain_rows = rows_with first_slot

abbrev pub plain_known : Known
plain_known = known_with first_slot (codes "b")

abbrev pub plain_image : ℕ → List ℕ
plain_image = area_of (top_image 17) empty empty (first_record ∷ raw_record ∷ [])

abbrev pub plain_area : Held
plain_area = at_rest plain_image

-- a shape of a group of so many extents
abbrev pub shape_in_group : ℕ → List DiskRecord → List ImageRow → Shape
shape_in_group count records images = record {
  sequence = 4;
  extent = 32;
  block = 8;
  entries = 64;
  extents = count;
  others = 16;
  records = records;
  images = images;
  logs = [];
  attached = [];
  op = Idle;
}

abbrev pub shape_with : List DiskRecord → List ImageRow → Shape
shape_with = shape_in_group 64

abbrev pub record_of : Record → DiskRecord
record_of r = record { uuid = r.uuid; label = r.label; origin = r.origin; read_only = r.read_only }

abbrev pub shape_of : ℕ → List (Option ℕ) → List ℕ → Shape
shape_of count slots label = shape_in_group count
    (record_of first_record ∷ record_of (labelled label) ∷ [])
    (record { name = Raw second; hidden = false; parent = None; size = 32; slots = []; extents = 1 }
    ∷ record { name = Vhd first; hidden = false; parent = None; size = 128; slots = slots; extents = 5 }
    ∷ [])

abbrev pub plain_shape : Shape
plain_shape = shape_of 64 first_slot (codes "b")

-- ---- a disk and its snapshot, both over a hidden base; the disk's image holds sector 0, and so does the base

abbrev pub pair_table : VolumeTable
pair_table = table_with (image_row false (Vhd first) 21 ∷ image_row false (Vhd second) 26 ∷ image_row true (Vhd base) 16 ∷ [])

abbrev pub pair_known : Known
pair_known = record {
  rows = vhd_row false (head_over (Vhd base) first) first_slot
      ∷ vhd_row false (head_over (Vhd base) second) no_slots
      ∷ vhd_row true (top_head base) first_slot
      ∷ [];
  places = two_places first_record second_record;
  logs = [];
  attached = unattached;
  op = Idle;
}

abbrev pub pair_area : Held
pair_area = at_rest (area_of (top_image 17) (filled_child (Vhd base) 34) (empty_child (Vhd base)) (first_record ∷ second_record ∷ []))

abbrev pub pair_shape : Shape
pair_shape = shape_with
    (record_of first_record ∷ record_of second_record ∷ [])
    (record { name = Vhd first; hidden = false; parent = Some (Vhd base); size = 128; slots = first_slot; extents = 5 }
    ∷ record { name = Vhd second; hidden = false; parent = Some (Vhd base); size = 128; slots = no_slots; extents = 5 }
    ∷ record { name = Vhd base; hidden = true; parent = None; size = 128; slots = first_slot; extents = 5 }
    ∷ [])

-- ---- a chain: a disk lies over a hidden image over a hidden base, under the entry of an operation

abbrev pub chain_table : Name → VolumeTable
chain_table entry = table_with (image_row false (Vhd first) 21
    ∷ image_row true (Vhd second) 26
    ∷ image_row true (Vhd base) 16
    ∷ record { name = entry; hidden = false; fresh = false; extents = [] }
    ∷ [])

-- memory with these slots of the hidden image, and so many extents of the base
abbrev pub chain_known : Op → List (Option ℕ) → ℕ → Known
chain_known operation slots n = record {
  rows = vhd_row false (head_over (Vhd second) first) no_slots
      ∷ vhd_row true (head_over (Vhd base) second) slots
      ∷ record { image = body.Vhd (top_head base) first_slot; hidden = true; extents = n }
      ∷ [];
  places = Some first_record ∷ replicate 511 None;
  logs = [];
  attached = unattached;
  op = operation;
}

-- sector 0 of the hidden image is of byte 34, and the base's is of this one
abbrev pub chain_image : ℕ → ℕ → List ℕ
chain_image byte = area_of (top_image byte) (empty_child (Vhd second)) (filled_child (Vhd base) 34) (first_record ∷ [])

-- the base holds alike what the hidden image holds
abbrev pub chain_area : Held
chain_area = at_rest (chain_image 34)

abbrev pub chain_shape : Op → List (Option ℕ) → ℕ → Shape
chain_shape operation slots n =
    let s = shape_with
    (record_of first_record ∷ [])
    (record { name = Vhd first; hidden = false; parent = Some (Vhd second); size = 128; slots = no_slots; extents = 5 }
    ∷ record { name = Vhd second; hidden = true; parent = Some (Vhd base); size = 128; slots = slots; extents = 5 }
    ∷ record { name = Vhd base; hidden = true; parent = None; size = 128; slots = first_slot; extents = n }
    ∷ []) in
    record s { op = operation }

-- ---- a copy: block 0 of the hidden image was copied into the base

abbrev pub copy_table : VolumeTable
copy_table = chain_table (Coalesce second base)

abbrev pub copy : Op
copy = Copy (Vhd second) (Vhd base) 1

abbrev pub copy_known : Known
copy_known = chain_known copy first_slot 5

abbrev pub copy_shape : Shape
copy_shape = chain_shape copy first_slot 5

-- ---- a link: all of the hidden image was copied into the base, and the disk still lies over the hidden image

abbrev pub link_table : VolumeTable
link_table = chain_table (name.Relink second base)

abbrev pub link : Op
link = Relink (Vhd second) (Vhd base)

abbrev pub link_known : Known
link_known = chain_known link first_slot 5

abbrev pub link_shape : Shape
link_shape = chain_shape link first_slot 5

-- ---- a guest writes: the two disks, of which the VHD disk is attached for writing. Its sector 0, which stands in sector 5
-- of its volume, was written again with byte 34, and not synced

abbrev pub written_known : Known
written_known = record plain_known { attached = record { disks = (first, Rw) ∷ []; counts = (Vhd first, 1) ∷ []; room = 1 } }

abbrev pub written_area : Held
written_area = record { floor = plain_image; pending = λ p. if p == 517 then sector_of 34 ∷ [] else [] }

abbrev pub written_shape : Shape
written_shape = let s = plain_shape in record s { attached = record { disk = first; mode = Rw } ∷ [] }

-- ---- a live folding: the image of a disk that is attached for writing is folded into the hidden base under it. Block 0 was copied, of byte
-- 17, and then the guest wrote byte 34 to it: so it is dirty

abbrev pub live : List ℕ → Op
live dirty = Live (Vhd first) (Vhd base) 1 dirty

-- memory with these blocks as the dirty ones
abbrev pub live_known : List ℕ → Known
live_known dirty = record {
  rows = vhd_row false (head_over (Vhd base) first) first_slot ∷ vhd_row true (top_head base) first_slot ∷ [];
  places = Some first_record ∷ replicate 511 None;
  logs = [];
  attached = record { disks = (first, Rw) ∷ []; counts = (Vhd first, 1) ∷ (Vhd base, 1) ∷ []; room = 2 };
  op = live dirty;
}

abbrev pub live_area : Held
live_area = at_rest (area_of (top_image 17) (filled_child (Vhd base) 34) empty (first_record ∷ []))

abbrev pub live_shape : List ℕ → Shape
live_shape dirty =
    let s = shape_with
    (record_of first_record ∷ [])
    (record { name = Vhd first; hidden = false; parent = Some (Vhd base); size = 128; slots = first_slot; extents = 5 }
    ∷ record { name = Vhd base; hidden = true; parent = None; size = 128; slots = first_slot; extents = 5 }
    ∷ []) in
    record s { attached = record { disk = first; mode = Rw } ∷ []; op = live dirty }
