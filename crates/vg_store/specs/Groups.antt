-- What stands on the device of an open volume group, and what a stop may leave of it (this project's format).
use Rattle.std.specs.Prelude.{◌≡◌, ℕ, ◌+◌, ◌-◌, ◌*◌, ◌^◌, ◌<◌, ◌≤◌, ◌⊎◌, Bool, ◌&&◌, ◌||◌, not, ◌==◌, nat_lt, nat_le, if◌then◌else◌, List, [], length, take, sum, Ok}
use Rattle.sm_base.specs.Limits.{extent_limit}
use Rattle.sm_base.specs.Numbers.{div_up}
use Rattle.sm_disk.specs.Held.{Held, May, Allows, moved}
use Rattle.vg_meta.specs.Tables.{VolumeTable}
use Rattle.vg_meta.specs.Reading.{Spells}
use Rattle.vg_layout.specs.Places.{Frame, area_place, frame_of, label_place, slot_bytes, slot_place}
use Rattle.vg_layout.specs.Sectors.{Plate, Pointer}
use Rattle.vg_layout.specs.Opening.{StandsOn, frame_in, plate_of, pointer_of, text_in, version_of}
use Rattle.vg_volumes.specs.Commits.{IsEither, current_version}

-- the sectors of all extents of a layout: those of the device from the first extent on
abbrev pub area_of : ℕ → Held → Held
area_of layout h = moved (λ q. area_place layout + q) h

-- a place of a frame's slot
abbrev pub is_in_slot : Frame → ℕ → ℕ → Bool
is_in_slot f slot p = nat_le (slot_place f slot) p && nat_lt p (slot_place f slot + f.room)

-- a place of a frame: the label's, the header's, or one of a slot
abbrev pub is_of_frame : Frame → ℕ → Bool
is_of_frame f p = p == label_place || (p == f.header || (is_in_slot f 0 p || is_in_slot f 1 p))

-- a place of the device that is no part of a group in this layout with so many sectors in its extents: in front of the extents where
-- the layout's frame has nothing, or behind the last extent
abbrev pub is_beside : ℕ → ℕ → ℕ → Bool
is_beside layout area p = (nat_lt p (area_place layout) && not (is_of_frame (frame_of current_version layout) p)) || nat_le (area_place layout + area) p

-- what is held of those places
unfoldable pub beside_of : ℕ → ℕ → Held → Held
beside_of layout area h = record {
  floor = λ p. if is_beside layout area p then h.floor p else [];
  pending = λ p. if is_beside layout area p then h.pending p else [];
}

-- the frame by which a layout's commits are made
abbrev pub IsFrameOf : Frame → ℕ → Type 0
IsFrameOf f layout = f ≡ frame_of current_version layout

-- a version that a group may have in a layout: the first has the narrow one alone
pub record IsVersionOf (version layout : ℕ) : Type 0 where
  pub some : 1 ≤ version
  pub most : version ≤ current_version
  pub narrow : layout < version

-- in front of the extents a stop leaves what stands there: this label, of the current version, this header and this text
pub record Rests (size : ℕ) (h : Held) (p : Plate) (at : Pointer) (bytes : List ℕ) : Type 0 where
  pub still : (q : ℕ) (v : List ℕ) → q < area_place p.layout → May h q v → v ≡ h.floor q
  pub current : version_of h.floor ≡ current_version
  pub labelled : plate_of size h.floor ≡ Ok p
  pub headed : pointer_of h.floor ≡ Ok at
  pub text : text_in h.floor at ≡ bytes

-- a group with this label stands on an image
pub record GroupStands (size : ℕ) (image : ℕ → List ℕ) (p : Plate) : Type 0 where
  pub pointer : Pointer
  pub table : VolumeTable
  pub stands : StandsOn size image (record { plate = p; pointer = pointer; table = table })

-- a stop may leave this table and these sectors of the extents: they are those of one image that the device
-- allows, on which a group stands with this plate and this table
pub record LeavesGroup (size : ℕ) (h : Held) (p : Plate) (t : VolumeTable) (image : ℕ → List ℕ) : Type 0 where
  pub whole : ℕ → List ℕ
  pub allowed : Allows size h whole
  pub pointer : Pointer
  pub stands : StandsOn size whole (record { plate = p; pointer = pointer; table = t })
  pub sectors : (q : ℕ) → image q ≡ whole (area_place p.layout + q)

-- a group that stands, with the table that its text spells
pub record IsGroup (size : ℕ) (h : Held) (p : Plate) (at : Pointer) (t : VolumeTable) (bytes : List ℕ) : Type 0 where
  pub rests : Rests size h p at bytes
  pub summed : sum bytes ≡ at.total
  pub spelled : Spells p.count bytes t
  pub few : p.count ≤ extent_limit

-- a header of the other slot of a frame, and sectors that begin with its text, which spells the next table
pub record IsNext (f : Frame) (p : Plate) (at next : Pointer) (u : VolumeTable) (written : List ℕ) : Type 0 where
  pub slot : next.slot ≡ 1 - at.slot
  pub size : next.size ≤ slot_bytes f
  pub total_fits : next.total < 2 ^ 32
  pub long : length written ≡ 512 * div_up next.size 512
  pub total : sum (take next.size written) ≡ next.total
  pub spelled : Spells p.count (take next.size written) u

-- a group stands, by this frame, and a header and sectors are those of a next table of it
pub record IsNextOf (size : ℕ) (h : Held) (f : Frame) (p : Plate) (at : Pointer) (t : VolumeTable) (bytes : List ℕ) (next : Pointer) (u : VolumeTable) (written : List ℕ) : Type 0 where
  pub group : IsGroup size h p at t bytes
  pub frame : f ≡ frame_in h.floor
  pub is_next : IsNext (frame_in h.floor) p at next u written

-- after a flip of a group to its next table, which may have failed, a stop leaves one of the two
abbrev pub LeavesEither : ℕ → Held → Held → Frame → Pointer → List ℕ → Type 0
LeavesEither size old new f next written =
    (area : ℕ) (p : Plate) (at : Pointer) (t u : VolumeTable) (bytes : List ℕ) → IsNextOf size old f p at t bytes next u written → area_place p.layout + area ≤ size
    → (v : VolumeTable) (image : ℕ → List ℕ) → LeavesGroup size new p v image → IsEither area t u (area_of p.layout old) v image

-- and on each image that a stop leaves the group stands with one of the two
abbrev pub StandsEither : ℕ → Held → Held → Frame → Pointer → List ℕ → Type 0
StandsEither size old new f next written =
    (p : Plate) (at : Pointer) (t u : VolumeTable) (bytes : List ℕ) → IsNextOf size old f p at t bytes next u written
    → (image : ℕ → List ℕ) → Allows size new image
    → StandsOn size image (record { plate = p; pointer = at; table = t }) ⊎ StandsOn size image (record { plate = p; pointer = next; table = u })

-- and after one that succeeded the group stands with the next table
abbrev pub IsFlipped : ℕ → Held → Held → Frame → Pointer → List ℕ → Type 0
IsFlipped size old new f next written =
    (p : Plate) (at : Pointer) (t u : VolumeTable) (bytes : List ℕ) → IsNextOf size old f p at t bytes next u written
    → IsGroup size new p next u (take next.size written)
