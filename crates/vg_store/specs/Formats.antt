-- What formatting a device leaves (this project's format): a group of version 2, in the layout that gives the device more
-- extents, with one volume, that of the records, whose records are all free.
use Rattle.std.specs.Prelude.{◌≡◌, ℕ, ◌+◌, ◌*◌, ◌<◌, ◌≤◌, ◌⊎◌, List, length, sum, Err}
use Rattle.sm_base.specs.declared.faults.OpenFault.TheVariants.{NotARepository}
use Rattle.sm_base.specs.declared.sizes.Geometry.{Geometry}
use Rattle.sm_disk.specs.Held.{Held, Allows, Rose}
use Rattle.sm_disk.specs.Sectors.{sector, zeros}
use Rattle.vg_meta.specs.Tables.{new_table}
use Rattle.vg_meta.specs.Text.{text}
use Rattle.vg_layout.specs.Places.{Frame, area_place, best_layout, frame_of, label_place, new_extents, record_extents, slot_place}
use Rattle.vg_layout.specs.Sectors.{Plate, Pointer, header_sector, label_sector}
use Rattle.vg_layout.specs.Opening.{GroupFound, StandsOn, plate_of}
use Rattle.vg_volumes.specs.Commits.{current_version}
use Rattle.vg_store.specs.Groups.{beside_of}
use Rattle.vg_store.specs.declared.formats.FormatFault.{FormatFault}
use Rattle.vg_store.specs.declared.formats.FormatFault.TheVariants.{TooSmall, Device, NoMemory}

-- the fewest sectors of a device that can be formatted: in the narrow layout the extents of the records fit
abbrev pub least_size : ℕ → ℕ
least_size extent = area_place 0 + record_extents extent * extent

-- the group of a device of so many sectors that was formatted: its label says these sizes and this repository, and
-- its table, that of a new group, stands in slot 0
abbrev pub new_group : ℕ → Geometry → List ℕ → GroupFound
new_group size g repository =
    let t = new_table (record_extents g.extent) in
    record {
      plate = record { extent = g.extent; block = g.block; entries = g.entries; count = new_extents size g.extent; layout = best_layout size g.extent; identity = repository };
      pointer = record { slot = 0; size = length (text t); total = sum (text t) };
      table = t;
    }

-- a format was finished: the new group stands, and each of the 512 records is free
pub record IsFormatted (size : ℕ) (image : ℕ → List ℕ) (g : Geometry) (repository : List ℕ) : Type 0 where
  pub stands : StandsOn size image (new_group size g repository)
  pub records : (q : ℕ) → q < 512 → image (area_place (best_layout size g.extent) + q) ≡ zeros

-- a stop leaves what it might have left before the format, or no repository, or what a finished format leaves
abbrev pub IsLeftByFormat : ℕ → Held → Geometry → List ℕ → (ℕ → List ℕ) → Type 0
IsLeftByFormat size old g repository image =
    Allows size old image ⊎ ((plate_of size image ≡ Err NotARepository) ⊎ IsFormatted size image g repository)

-- why nothing was formatted: the device is smaller than the size that is told; or a fault of the device raised the
-- count; or memory ran out. Only a fault of the device may leave it changed
abbrev pub IsFormatFault : ℕ → ℕ → Type 0 → ℕ → ℕ → FormatFault → Type 0
IsFormatFault size least Unchanged before now (TooSmall sectors) = (size < least) × (sectors ≡ least) × Unchanged
IsFormatFault size least Unchanged before now Device = Rose before now
IsFormatFault size least Unchanged before now NoMemory = Unchanged

-- each whole sector of these bytes is one of zeros
abbrev pub IsBlank : List ℕ → Type 0
IsBlank bytes = (i : ℕ) → 512 * i + 512 ≤ length bytes → sector bytes i ≡ zeros

-- what is held of the places that are no part of the group that a format makes on a device of so many sectors
abbrev pub beside_new : ℕ → ℕ → Held → Held
beside_new size extent h = beside_of (best_layout size extent) (new_extents size extent * extent) h

-- the frame of a new group in a layout
abbrev pub new_frame : ℕ → Frame
new_frame layout = frame_of current_version layout

-- a place that a format in this layout writes: the label's, the header's, the first of slot 0, or that of a record
abbrev pub IsFormatPlace : ℕ → ℕ → Type 0
IsFormatPlace layout q =
    (q ≡ label_place) ⊎ ((q ≡ (new_frame layout).header) ⊎ ((q ≡ slot_place (new_frame layout) 0) ⊎ ((area_place layout ≤ q) × (q < area_place layout + 512))))

-- a write at such a place
abbrev pub IsFormatWrite : ℕ → ℕ → List ℕ → Type 0
IsFormatWrite layout q v = IsFormatPlace layout q

-- one of anything but the label
abbrev pub IsBehindLabel : ℕ → ℕ → List ℕ → Type 0
IsBehindLabel layout q v = (label_place < q) × IsFormatPlace layout q

-- behind the label stand, in this layout, this header, this text and free records
pub record StandsBehindLabel (layout : ℕ) (h : Pointer) (written : List ℕ) (image : ℕ → List ℕ) : Type 0 where
  pub header : image (new_frame layout).header ≡ header_sector h
  pub text : image (slot_place (new_frame layout) h.slot) ≡ written
  pub records : (q : ℕ) → q < 512 → image (area_place layout + q) ≡ zeros

-- and this label in front of them
pub record IsLaidOut (p : Plate) (h : Pointer) (written : List ℕ) (image : ℕ → List ℕ) : Type 0 where
  pub label : image label_place ≡ label_sector current_version p
  pub filled : StandsBehindLabel p.layout h written image

-- a stop leaves what it might have left before, or no repository, or all of that
abbrev pub IsLeftOf : ℕ → Held → Plate → Pointer → List ℕ → (ℕ → List ℕ) → Type 0
IsLeftOf size old p h written image =
    Allows size old image ⊎ ((plate_of size image ≡ Err NotARepository) ⊎ IsLaidOut p h written image)
