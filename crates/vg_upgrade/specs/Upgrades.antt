-- How a repository of version 1 is taken over by version 2 (this project's format). Version 1 reads, beside the label, sectors 1 to
-- 2,049 alone; the narrow layout of version 2 has its table header in sector 2,050 and slot 0 from sector 2,051 on, and its extents
-- where version 1 has them. So the new header and text are written and synced first, then the new label.
use Rattle.std.specs.Prelude.{◌≡◌, ◌≢◌, ◌⊎◌, ℕ, ◌+◌, ◌-◌, ◌*◌, ◌^◌, ◌<◌, ◌≤◌, ◌==◌, if◌then◌else◌, List, ◌++◌, length, replicate, sum}
use Rattle.sm_base.specs.Numbers.{div_up}
use Rattle.sm_disk.specs.Held.{Allows, Held, May, IsSettled, reads}
use Rattle.sm_disk.specs.Sectors.{sector}
use Rattle.vg_meta.specs.Tables.{VolumeTable}
use Rattle.vg_meta.specs.Text.{text}
use Rattle.vg_layout.specs.Places.{label_place, narrow_frame}
use Rattle.vg_layout.specs.Sectors.{Plate, Pointer, header_sector, label_sector}
use Rattle.vg_layout.specs.Opening.{StandsOn, version_of}

-- the pointer to a table's text by segments in slot 0
abbrev pub new_pointer : VolumeTable → Pointer
new_pointer t = let bytes = text t in record { slot = 0; size = length bytes; total = sum bytes }

-- how many sectors that text reaches
abbrev pub new_sectors : VolumeTable → ℕ
new_sectors t = div_up (length (text t)) 512

-- its bytes, and zeros to the end of its last sector
abbrev pub new_bytes : VolumeTable → List ℕ
new_bytes t = text t ++ replicate (512 * new_sectors t - length (text t)) 0

-- where a value is that of the new header or of the new text, if it stands where these do
pub record IsLaidAt (t : VolumeTable) (q : ℕ) (v : List ℕ) : Type 0 where
  pub header : q ≡ narrow_frame.header → v ≡ header_sector (new_pointer t)
  pub text : (i : ℕ) → i < new_sectors t → q ≡ narrow_frame.first + i → v ≡ sector (new_bytes t) i

-- a write of a part of the new header and text: of the header's place or of a sector that the text reaches, with the value there
pub record IsNewPart (t : VolumeTable) (q : ℕ) (v : List ℕ) : Type 0 where
  pub from : narrow_frame.header ≤ q
  pub to : q < 4096
  pub reached : q < narrow_frame.first + new_sectors t
  pub laid : IsLaidAt t q v

-- a write of the label of version 2
pub record IsNewLabel (p : Plate) (q : ℕ) (v : List ℕ) : Type 0 where
  pub place : q ≡ label_place
  pub label : v ≡ label_sector 2 p

-- all that an upgrade writes
abbrev pub IsUpgradeWrite : Plate → VolumeTable → ℕ → List ℕ → Type 0
IsUpgradeWrite p t q v = IsNewPart t q v ⊎ IsNewLabel p q v

-- While a group of version 1 is taken over, which stood on the image `was`: what version 1 reads, but for the label, is as in that
-- image. The label is that of the image or that of version 2, and where it may be that of version 2, whatever a stop leaves has the
-- new header and the new text, whose sum a header can say.
pub record IsTakenOver (size : ℕ) (was : ℕ → List ℕ) (h : Held) (p : Plate) (at : Pointer) (t : VolumeTable) : Type 0 where
  pub stands : StandsOn size was (record { plate = p; pointer = at; table = t })
  pub old : version_of was ≡ 1
  pub still : (q : ℕ) (v : List ℕ) → 1 ≤ q → q < narrow_frame.header → May h q v → v ≡ was q
  pub label : (v : List ℕ) → May h label_place v → v ≢ was label_place → v ≡ label_sector 2 p
  pub lasts : (v : List ℕ) → May h label_place v → v ≢ was label_place → (q : ℕ) (w : List ℕ) → May h q w → IsLaidAt t q w
  pub total : (v : List ℕ) → May h label_place v → v ≢ was label_place → sum (text t) < 2 ^ 32

-- a group is being taken over on a device of so many sectors, where a stop may leave this image
pub record MayLeave (size : ℕ) (was : ℕ → List ℕ) (h : Held) (p : Plate) (at : Pointer) (t : VolumeTable) (image : ℕ → List ℕ) : Type 0 where
  pub going : IsTakenOver size was h p at t
  pub enough : 4096 ≤ size
  pub allowed : Allows size h image

-- the image on which a group of version 1 stood, as far as version 1 reads it, by its label's fields and by what is held
unfoldable pub old_image : Plate → Held → ℕ → List ℕ
old_image p h q = if q == label_place then label_sector 1 p else h.floor q

-- a group of version 1 is taken over, or nothing was begun
abbrev pub IsBeingTaken : ℕ → Held → Plate → Pointer → VolumeTable → Type 0
IsBeingTaken size h p at t = IsTakenOver size (old_image p h) h p at t

-- version 2 rests: nothing is pending, and reads give its label, header and text
pub record IsTaken (p : Plate) (t : VolumeTable) (h : Held) : Type 0 where
  pub settled : IsSettled h
  pub label : reads h label_place ≡ label_sector 2 p
  pub total : sum (text t) < 2 ^ 32
  pub laid : (q : ℕ) → IsLaidAt t q (reads h q)
