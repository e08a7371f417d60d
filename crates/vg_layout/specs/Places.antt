-- Where the parts of a repository stand on its device (this project's format). A place is the number of a sector. The label
-- stands in sector 0 and says a version and a layout, by which all else stands. Layout 0 is narrow, layout 1 is wide; version
-- 1 has the narrow one alone.
--                      header  slot 0 from  slot 1 from  sectors of a slot  extents from  extents at most
--   version 1               1            2        1,026              1,024         4,096           65,536
--   version 2, narrow   2,050        2,051            2              2,045         4,096           65,536
--   version 2, wide     2,050        4,096       20,736             16,640        37,376        1,048,576
use Rattle.std.specs.Prelude.{◌⊎◌, ◌<◌, ◌≤◌, ℕ, zero, suc, ◌+◌, ◌-◌, ◌*◌, ◌/◌, ◌==◌, min, nat_lt, List, [], ◌++◌, take, if◌then◌else◌}
use Rattle.sm_base.specs.Numbers.{div_up}

-- where the table header and the two slots of the table's text begin, and how many sectors a slot has
pub record Frame : Type 0 where
  pub header : ℕ
  pub first : ℕ
  pub second : ℕ
  pub room : ℕ

-- the frame of version 1
abbrev pub old_frame : Frame
old_frame = record { header = 1; first = 2; second = 1026; room = 1024 }

-- the frames of version 2
abbrev pub narrow_frame : Frame
narrow_frame = record { header = 2050; first = 2051; second = 2; room = 2045 }

abbrev pub wide_frame : Frame
wide_frame = record { header = 2050; first = 4096; second = 20736; room = 16640 }

-- the frame of a version and a layout
unfoldable pub frame_of : ℕ → ℕ → Frame
frame_of version layout = if version == 1 then old_frame else if layout == 0 then narrow_frame else wide_frame

abbrev pub label_place : ℕ
label_place = 0

-- where a slot begins
abbrev pub slot_place : Frame → ℕ → ℕ
slot_place f slot = if slot == 0 then f.first else f.second

-- the bytes of a slot
abbrev pub slot_bytes : Frame → ℕ
slot_bytes f = 512 * f.room

-- where the extents begin in a layout
unfoldable pub area_place : ℕ → ℕ
area_place layout = if layout == 0 then 4096 else 37376

-- the most extents of a layout
unfoldable pub most_extents : ℕ → ℕ
most_extents layout = if layout == 0 then 65536 else 1048576

-- the number of extents that a device of so many sectors has in a layout: whole ones, and no more than the layout's most
unfoldable pub extents_on : ℕ → ℕ → ℕ → ℕ
extents_on layout size extent = min ((size - area_place layout) / extent) (most_extents layout)

-- the layout that gives a device more extents, the narrow one where both give as many
unfoldable pub best_layout : ℕ → ℕ → ℕ
best_layout size extent = if nat_lt (extents_on 0 size extent) (extents_on 1 size extent) then 1 else 0

-- the number of extents of a new group on a device
abbrev pub new_extents : ℕ → ℕ → ℕ
new_extents size extent = extents_on (best_layout size extent) size extent

-- the extents of the volume of records, which has 512 sectors' worth of them
unfoldable pub record_extents : ℕ → ℕ
record_extents extent = div_up 512 extent

-- the sectors of an image from a place on, one after another
unfoldable pub run_of : (ℕ → List ℕ) → ℕ → ℕ → List ℕ
run_of image at zero = []
run_of image at (suc n) = image at ++ run_of image (at + 1) n

-- the bytes of a text of this length in a slot
unfoldable pub slot_text : Frame → (ℕ → List ℕ) → ℕ → ℕ → List ℕ
slot_text f image slot length = take length (run_of image (slot_place f slot) (div_up length 512))

-- label, header and slots stand apart from one another, and in front of this place
pub record IsApart (f : Frame) (from : ℕ) : Type 0 where
  pub label : (1 ≤ f.header) × (1 ≤ f.first) × (1 ≤ f.second)
  pub header : (s : ℕ) → s ≤ 1 → (f.header < slot_place f s) ⊎ (slot_place f s + f.room ≤ f.header)
  pub slots : (s : ℕ) → s ≤ 1 → (slot_place f s + f.room ≤ slot_place f (1 - s)) ⊎ (slot_place f (1 - s) + f.room ≤ slot_place f s)
  pub front : (f.header < from) × (f.first + f.room ≤ from) × (f.second + f.room ≤ from)
