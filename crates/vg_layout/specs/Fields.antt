-- What the program's label, table header and frame stand for: their fields, as the format has them.
use Rattle.std.specs.Prelude.{ℕ}
use Rattle.vg_layout.specs.declared.labels.GroupLabel.{GroupLabel}
use Rattle.vg_layout.specs.declared.headers.TableHeader.{TableHeader}
use Rattle.vg_layout.specs.declared.places.Frame.{Frame as FrameHere}
use Rattle.vg_layout.specs.declared.places.Layout.{Layout}
use Rattle.vg_layout.specs.declared.places.Layout.TheVariants.{Narrow, Wide}
use Rattle.vg_layout.specs.declared.places.Slot.{Slot}
use Rattle.vg_layout.specs.declared.places.Slot.TheVariants.{Zero, One}
use Rattle.vg_layout.specs.Places.{Frame}
use Rattle.vg_layout.specs.Sectors.{Plate, Pointer}

-- the number of a layout
abbrev pub layout_number : Layout → ℕ
layout_number Narrow = 0
layout_number Wide = 1

-- the places of a frame in memory
abbrev pub places_in : FrameHere → Frame
places_in f = record { header = f.header; first = f.first; second = f.second; room = f.room }

-- the fields of a label in memory
abbrev pub plate : GroupLabel → Plate
plate l = record {
  extent = l.geometry.extent;
  block = l.geometry.block;
  entries = l.geometry.entries;
  count = l.extents;
  layout = layout_number l.layout;
  identity = l.repository;
}

-- the number of a slot
abbrev pub slot_number : Slot → ℕ
slot_number Zero = 0
slot_number One = 1

-- the fields of a header in memory
abbrev pub pointer : TableHeader → Pointer
pointer h = record { slot = slot_number h.slot; size = h.length; total = h.sum }
