-- What an opening finds, and what it is answered with where it found no group.
use Rattle.std.specs.Prelude.{◌≡◌, ◌≢◌, ◌≤◌, ℕ, ◌+◌, ◌*◌, List, length, sum, Ok}
use Rattle.sm_base.specs.declared.faults.OpenFault.{OpenFault}
use Rattle.sm_base.specs.declared.faults.OpenFault.TheVariants.{NotARepository, Unsupported, Damaged, Device, NoMemory}
use Rattle.sm_base.specs.declared.faults.Place.TheVariants.{TableSum, Table}
use Rattle.sm_disk.specs.Held.{Held, Rose, reads}
use Rattle.vg_meta.specs.Tables.{VolumeTable}
use Rattle.vg_meta.specs.Text.{text_by}
use Rattle.vg_meta.specs.Reading.{IsDamagedBy, SpellsBy}
use Rattle.vg_meta.specs.declared.grammars.Grammar.{Grammar}
use Rattle.vg_layout.specs.Places.{Frame, area_place, frame_of, most_extents, slot_bytes, slot_text}
use Rattle.vg_layout.specs.Sectors.{Plate, Pointer}
use Rattle.vg_layout.specs.Opening.{StandsOn, grammar_of, plate_of, version_of}
use Rattle.vg_store.specs.Groups.{IsVersionOf}

-- a fact of a refusal by what stands on the device; a fault of the device raised the count, and only where it is answered; want
-- of memory is free
abbrev pub IsAnswer : (OpenFault → Type 0) → ℕ → ℕ → OpenFault → Type 0
IsAnswer IsIt before now NotARepository = IsIt NotARepository × (now ≡ before)
IsAnswer IsIt before now (Unsupported version) = IsIt (Unsupported version) × (now ≡ before)
IsAnswer IsIt before now (Damaged place) = IsIt (Damaged place) × (now ≡ before)
IsAnswer IsIt before now Device = Rose before now
IsAnswer IsIt before now NoMemory = now ≡ before

-- the fifth check fails: the text has not the header's sum, or it spells no table by the grammar
pub data IsTextRefused (g : Grammar) (count total : ℕ) (bytes : List ℕ) : OpenFault → Type 0 where
  by_sum : sum bytes ≢ total → IsTextRefused g count total bytes (Damaged TableSum)
  by_text : (place : ℕ) → sum bytes ≡ total → IsDamagedBy g count bytes place → IsTextRefused g count total bytes (Damaged (Table place))

-- what the text that a pointer names in a frame, as a device reads it, is answered with, where it is no table's
abbrev pub IsTextAnswer : Grammar → Frame → ℕ → Pointer → Held → OpenFault → Type 0
IsTextAnswer g f count at h e = IsTextRefused g count at.total (slot_text f (reads h) at.slot at.size) e

-- a label that an opening takes: its version may have its layout, and its extents are few and stand on a device of so many sectors
pub record HasLabel (size version : ℕ) (p : Plate) : Type 0 where
  pub known : IsVersionOf version p.layout
  pub few : p.count ≤ most_extents p.layout
  pub area : area_place p.layout + p.count * p.extent ≤ size

-- an image shows this label and this version
pub record ShowsLabel (size : ℕ) (image : ℕ → List ℕ) (version : ℕ) (p : Plate) : Type 0 where
  pub says : version_of image ≡ version
  pub labelled : plate_of size image ≡ Ok p

-- a table whose text by a grammar a pointer names
pub record HasTextOf (g : Grammar) (count : ℕ) (at : Pointer) (t : VolumeTable) : Type 0 where
  pub spelled : SpellsBy g count (text_by g t) t
  pub size : length (text_by g t) ≡ at.size
  pub total : sum (text_by g t) ≡ at.total

-- what an opening knows of the label, the pointer and the table that it found, whatever the device tells
pub record IsKnown (size version : ℕ) (p : Plate) (at : Pointer) (t : VolumeTable) : Type 0 where
  pub label : HasLabel size version p
  pub table : HasTextOf (grammar_of version) p.count at t
  pub short : at.size ≤ slot_bytes (frame_of version p.layout)

-- a group of this version stands on an image
pub record IsFoundOn (size : ℕ) (image : ℕ → List ℕ) (version : ℕ) (p : Plate) (at : Pointer) (t : VolumeTable) : Type 0 where
  pub says : version_of image ≡ version
  pub stands : StandsOn size image (record { plate = p; pointer = at; table = t })
