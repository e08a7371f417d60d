-- What a stop of a device may show, when a device is kept: whatever it leaves opens again, and when it is truthful: what the logs of tracked disks
-- tell of whatever it leaves is true (this project's format).
use Rattle.std.specs.Prelude.{◌≡◌, ℕ, List, [], None, Some}
use Rattle.sm_base.specs.declared.faults.OpenFault.{OpenFault}
use Rattle.sm_base.specs.declared.faults.OpenFault.TheVariants.{Damaged}
use Rattle.sm_base.specs.declared.faults.Place.{Place}
use Rattle.sm_disk.specs.Held.{Held, Allows}
use Rattle.sm_machine.specs.Disks.{Disk}
use Rattle.vg_layout.specs.Opening.{GroupFound, StandsOn, IsRefused}
use Rattle.vg_layout.specs.Sectors.{Plate}
use Rattle.vg_meta.specs.Tables.{VolumeTable}
use Rattle.vg_store.specs.Groups.{GroupStands, LeavesGroup, beside_of}
use Rattle.vg_volumes.specs.Sites.{Site, area_size}
use Rattle.sm_machine.specs.Shapes.{Shape}
use Rattle.sm_standing.specs.Devices.{IsKeptOn, Shows, content_of}
use Rattle.sm_standing.specs.Dropped.{opening}
use Rattle.sm_standing.specs.Keeping.{HoldsWell}
use Rattle.sm_standing.specs.LogChecks.{first_place}
use Rattle.sm_standing.specs.Logs.{logs}
use Rattle.sm_session.specs.Truth.{IsTruthful}

-- each image that the device allows is kept
abbrev pub IsKeptDevice : ℕ → Held → Type 0
IsKeptDevice size h = (image : ℕ → List ℕ) → Allows size h image → IsKeptOn size image

-- of what stands on the image that holds which no opening tests
abbrev pub HoldsWellOn : ℕ → (ℕ → List ℕ) → Type 0
HoldsWellOn size image = (g : GroupFound) → StandsOn size image g → HoldsWell (content_of g image)

-- the logs of tracked disks that stand on the image are true of the disks that stand there
abbrev pub IsTruthfulOn : ℕ → (ℕ → List ℕ) → Type 0
IsTruthfulOn size image = (g : GroupFound) → StandsOn size image g → IsTruthful (content_of g image)

-- each image that the device allows is truthful
abbrev pub IsTruthfulDevice : ℕ → Held → Type 0
IsTruthfulDevice size h = (image : ℕ → List ℕ) → Allows size h image → IsTruthfulOn size image

-- no repository that stands on what a stop leaves of the device has a log
abbrev pub HasNoLogs : ℕ → Held → Type 0
HasNoLogs size h = (image : ℕ → List ℕ) (g : GroupFound) → Allows size h image → StandsOn size image g → logs (content_of g image) ≡ []

-- a stop of the device may show these disks
pub record MayShowOn (size : ℕ) (h : Held) (ds : List Disk) : Type 0 where
  pub image : ℕ → List ℕ
  pub allowed : Allows size h image
  pub shows : Shows size image ds

-- a group stands on the image, and all checks of its content pass
pub record IsSoundOn (size : ℕ) (image : ℕ → List ℕ) : Type 0 where
  pub group : GroupFound
  pub stands : StandsOn size image group
  pub sound : first_place (content_of group image) ≡ None

-- this shape is what an opening makes of what stands on the image
pub record IsOpenedOn (size : ℕ) (image : ℕ → List ℕ) (made : Shape) : Type 0 where
  pub group : GroupFound
  pub stands : StandsOn size image group
  pub shape_is : made ≡ opening (content_of group image)

-- the first check that fails, and its answer
pub data IsRefusedOn (size : ℕ) (image : ℕ → List ℕ) : OpenFault → Type 0 where
  by_group : (e : OpenFault) → IsRefused size image e → IsRefusedOn size image e
  by_content : (g : GroupFound) (p : Place) → StandsOn size image g → first_place (content_of g image) ≡ Some p → IsRefusedOn size image (Damaged p)

-- what the label of the group of this site says
abbrev pub plate_at : Site → Plate
plate_at s = record { extent = s.geometry.extent; block = s.geometry.block; entries = s.geometry.entries; count = s.count; layout = s.layout; identity = s.identity }

-- a group with the label of this site stands on each image that the device allows
abbrev pub StandsAlways : ℕ → Held → Site → Type 0
StandsAlways size h s = (image : ℕ → List ℕ) → Allows size h image → GroupStands size image (plate_at s)

-- this table is the only one that a stop leaves of the group of this site
abbrev pub IsOneTable : ℕ → Site → Held → VolumeTable → Type 0
IsOneTable size s h t = (u : VolumeTable) (image : ℕ → List ℕ) → LeavesGroup size h (plate_at s) u image → u ≡ t

-- what is held beside the group of this site
abbrev pub beside_at : Site → Held → Held
beside_at s h = beside_of s.layout (area_size s) h
