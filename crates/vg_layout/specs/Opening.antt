-- What stands on a device, by the first five checks of an opening (this project's format): the label, the table
-- header and the text of the table. The first check that fails gives the answer.
--   1. The device has at least 2 sectors and the label begins with its letters, else it is no repository.
--   2. The version is 1 or 2, else it is unsupported.
--   3. The label is right: the layout is one of its version, the sizes are in their ranges, the extents are on the device
--      and hold at least the volume of records, and the sector is the spelling of its fields.
--   4. The table header, which stands where the label's version and layout say, is right: the slot is 0 or 1, the text is no
--      longer than a slot, and the sector is the spelling of its fields.
--   5. The text has the header's sum, and it spells a table by the version's grammar, else it is damaged at its first fault.
use Rattle.std.specs.Prelude.{◌≡◌, ◌≢◌, ℕ, ◌&&◌, ◌==◌, not, nat_le, nat_lt, Bool, List, take, sum, if◌then◌else◌, Result, Ok, Err}
use Rattle.std.specs.Str.{bytes_eq}
use Rattle.sm_base.specs.declared.faults.OpenFault.{OpenFault}
use Rattle.sm_base.specs.declared.faults.OpenFault.TheVariants.{NotARepository, Unsupported, Damaged}
use Rattle.sm_base.specs.declared.faults.Place.TheVariants.{Label, Header, TableSum, Table}
use Rattle.vg_meta.specs.Tables.{VolumeTable}
use Rattle.vg_meta.specs.Reading.{SpellsBy, IsDamagedBy}
use Rattle.vg_meta.specs.declared.grammars.Grammar.{Grammar}
use Rattle.vg_meta.specs.declared.grammars.Grammar.TheVariants.{Listed, Segmented}
use Rattle.vg_layout.specs.Places.{Frame, frame_of, label_place, slot_bytes, slot_text, extents_on, record_extents}
use Rattle.vg_layout.specs.Sectors.{Plate, Pointer, label_cookie, label_sector, header_sector, plate_in, pointer_in, version_in, is_geometry}

-- the version that an image's label says
abbrev pub version_of : (ℕ → List ℕ) → ℕ
version_of image = version_in (image label_place)

-- the frame by which an image is read
abbrev pub frame_in : (ℕ → List ℕ) → Frame
frame_in image = frame_of (version_of image) (plate_in (image label_place)).layout

-- the grammar of a table's text: version 1 lists extents
unfoldable pub grammar_of : ℕ → Grammar
grammar_of version = if version == 1 then Listed else Segmented

-- a version that an opening takes
abbrev pub is_version : ℕ → Bool
is_version version = nat_le 1 version && nat_le version 2

-- a label that is right on a device of so many sectors: version 1 has layout 0, and version 2 has 0 or 1
unfoldable pub is_label_right : ℕ → List ℕ → Bool
is_label_right size sector =
    let p = plate_in sector in
    bytes_eq sector (label_sector (version_in sector) p)
    && (nat_lt p.layout (version_in sector)
    && (is_geometry p.extent p.block p.entries
    && (nat_le p.count (extents_on p.layout size p.extent) && nat_le (record_extents p.extent) p.count)))

-- the plate of a device, by the first three checks
unfoldable pub plate_of : ℕ → (ℕ → List ℕ) → Result Plate OpenFault
plate_of size image =
    let sector = image label_place in
    if nat_lt size 2 then Err NotARepository
    else if not (bytes_eq (take 8 sector) label_cookie) then Err NotARepository
    else if not (is_version (version_in sector)) then Err (Unsupported (version_in sector))
    else if is_label_right size sector then Ok (plate_in sector)
    else Err (Damaged Label)

-- a table header that is right in a frame
unfoldable pub is_header_right : Frame → List ℕ → Bool
is_header_right f sector =
    let h = pointer_in sector in
    bytes_eq sector (header_sector h) && (nat_le h.slot 1 && nat_le h.size (slot_bytes f))

-- the pointer that the sector of a table header says in a frame
unfoldable pub pointer_by : Frame → List ℕ → Result Pointer OpenFault
pointer_by f sector = if is_header_right f sector then Ok (pointer_in sector) else Err (Damaged Header)

-- the pointer of a device, by the fourth check
unfoldable pub pointer_of : (ℕ → List ℕ) → Result Pointer OpenFault
pointer_of image = let f = frame_in image in pointer_by f (image f.header)

-- the text of the table that a pointer names
abbrev pub text_in : (ℕ → List ℕ) → Pointer → List ℕ
text_in image h = slot_text (frame_in image) image h.slot h.size

-- what an opening learns of a volume group
pub record GroupFound : Type 0 where
  pub plate : Plate
  pub pointer : Pointer
  pub table : VolumeTable

-- this group stands on a device of so many sectors: all five checks pass
pub record StandsOn (sectors : ℕ) (image : ℕ → List ℕ) (g : GroupFound) : Type 0 where
  pub labelled : plate_of sectors image ≡ Ok g.plate
  pub headed : pointer_of image ≡ Ok g.pointer
  pub summed : sum (text_in image g.pointer) ≡ g.pointer.total
  pub spelled : SpellsBy (grammar_of (version_of image)) g.plate.count (text_in image g.pointer) g.table

-- the first check that fails, and its answer
pub data IsRefused (sectors : ℕ) (image : ℕ → List ℕ) : OpenFault → Type 0 where
  by_label : (e : OpenFault) → plate_of sectors image ≡ Err e → IsRefused sectors image e
  by_header : (p : Plate) (e : OpenFault) → plate_of sectors image ≡ Ok p → pointer_of image ≡ Err e → IsRefused sectors image e
  by_sum : (p : Plate) (h : Pointer) → plate_of sectors image ≡ Ok p → pointer_of image ≡ Ok h
      → sum (text_in image h) ≢ h.total → IsRefused sectors image (Damaged TableSum)
  by_text : (p : Plate) (h : Pointer) (place : ℕ) → plate_of sectors image ≡ Ok p → pointer_of image ≡ Ok h
      → sum (text_in image h) ≡ h.total → IsDamagedBy (grammar_of (version_of image)) p.count (text_in image h) place → IsRefused sectors image (Damaged (Table place))
