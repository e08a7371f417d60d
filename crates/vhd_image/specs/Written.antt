-- What a guest's write into an image did: a raw image takes the bytes into its volume, a VHD image by its blocks.
use Rattle.std.specs.Prelude.{◌≡◌, ◌⊎◌, ℕ, List, length, Option}
use Rattle.sm_base.specs.declared.sizes.Geometry.{Geometry}
use Rattle.sm_disk.specs.Held.{Held, IsIn, Puts, Torn, Wrote, Reaches, reads}
use Rattle.vhd_map.specs.Slots.{slot_of, top_of}
use Rattle.vhd_layout.specs.Layouts.{Sectors}
use Rattle.vhd_volumes.specs.Truth.{HasRoomFor, layout_in}
use Rattle.vhd_volumes.specs.Writes.{HasGrown, HasWritten, IsGuarded, IsPutOver, with_block, written_map}
use Rattle.vhd_write.specs.Marks.{IsMarkedIn, PutsMarkedIn}
use Rattle.vhd_write.specs.WritePlaces.{IsWritePlace}
use Rattle.vhd_image.specs.Bodies.{own_of}
use Rattle.vhd_image.specs.declared.images.Body.{Body}
use Rattle.vhd_image.specs.declared.images.Body.TheVariants.{Raw, Vhd}

-- the slots that the write takes have room
abbrev pub HasRoomToWrite : Geometry → ℕ → ℕ → ℕ → Body → Type 0
HasRoomToWrite g sectors at len (Raw volume size) = Unit {0}
HasRoomToWrite g sectors at len (Vhd head m) = HasRoomFor g (top_of (written_map g.block at len m)) sectors

-- the image once so many bytes were written from a sector of the disk on
abbrev pub written : ℕ → ℕ → ℕ → Body → Body
written block at len (Raw volume size) = Raw volume size
written block at len (Vhd head m) = Vhd head (written_map block at len m)

-- the image is as it was, but that blocks of a VHD image may have got slots
abbrev pub MayHaveGrown : Body → Body → Type 0
MayHaveGrown (Raw volume size) new = new ≡ Raw volume size
MayHaveGrown (Vhd head m) new = (grown : List (Option ℕ)) × (new ≡ Vhd head grown) × HasGrown m grown

-- at any moment of the write: any of a raw image's sectors are pending; what a stop leaves of a VHD image is valid, and
-- follows an image that a stop could leave before
abbrev pub IsWriting : Geometry → ℕ → Body → ℕ → List ℕ → Held → Held → Type 0
IsWriting g sectors (Raw volume size) at bytes old new = Torn at bytes old new
IsWriting g sectors (Vhd head m) at bytes old new = IsGuarded (layout_in g head.footer sectors) (Puts at bytes) old new

-- the write may put these bytes at this place of the volume, where a read gave r as it began
abbrev pub IsPlaceOfWrite : Geometry → ℕ → Body → ℕ → List ℕ → Sectors → ℕ → List ℕ → Type 0
IsPlaceOfWrite g sectors (Raw volume size) at bytes r = Puts at bytes
IsPlaceOfWrite g sectors (Vhd head m) at bytes r =
    IsWritePlace (layout_in g head.footer sectors) (Puts at bytes) (IsIn at (length bytes)) (slot_of m) (slot_of (written_map g.block at (length bytes) m)) r

-- the write put nothing but that: into a raw image its bytes; into a VHD image the given sectors, the bitmaps of their blocks' slots,
-- with no new bits but theirs, and sectors of the table, with no new entries but those of the map that it ends with
abbrev pub BodyKeepsToPlaces : Geometry → ℕ → Body → ℕ → List ℕ → Held → Held → Type 0
BodyKeepsToPlaces g sectors body at bytes old new = Reaches (IsPlaceOfWrite g sectors body at bytes (reads old)) old new

-- once the write is done: a raw image's volume has the bytes pending, a VHD image holds them, and of each other sector what it held
abbrev pub IsBodyWritten : Geometry → ℕ → Body → ℕ → List ℕ → Held → Held → Type 0
IsBodyWritten g sectors (Raw volume size) at bytes old new = Wrote at bytes old new
IsBodyWritten g sectors (Vhd head m) at bytes old new = HasWritten (layout_in g head.footer sectors) (Puts at bytes) old new

-- ---- the marked sectors of one block

-- the block has room for a slot
abbrev pub HasRoomForBlock : Geometry → ℕ → ℕ → Body → Type 0
HasRoomForBlock g sectors b (Raw volume size) = Unit {0}
HasRoomForBlock g sectors b (Vhd head m) = HasRoomFor g (top_of (with_block b m)) sectors

-- the image once a block has a slot
abbrev pub with_slot : ℕ → Body → Body
with_slot b (Raw volume size) = Raw volume size
with_slot b (Vhd head m) = Vhd head (with_block b m)

-- the image is as it was, or the block has a slot
abbrev pub MayHaveSlot : ℕ → Body → Body → Type 0
MayHaveSlot b old new = (new ≡ old) ⊎ (new ≡ with_slot b old)

-- at any moment of a write that puts what W says: of a raw image's sectors any are pending; what a stop leaves of a VHD image is valid,
-- and follows an image that a stop could leave before
abbrev pub IsPutting : Geometry → ℕ → Body → (ℕ → List ℕ → Type 0) → Held → Held → Type 0
IsPutting g sectors (Raw volume size) W old new = Reaches W old new
IsPutting g sectors (Vhd head m) W old new = IsGuarded (layout_in g head.footer sectors) W old new

-- the write of the marked sectors of a block may put these bytes at this place of the volume, where a read gave r as it began
abbrev pub IsPlaceOfMarks : Geometry → ℕ → Body → ℕ → List ℕ → List ℕ → Sectors → ℕ → List ℕ → Type 0
IsPlaceOfMarks g sectors (Raw volume size) b marks bytes r = PutsMarkedIn g.block b marks bytes
IsPlaceOfMarks g sectors (Vhd head m) b marks bytes r =
    IsWritePlace (layout_in g head.footer sectors) (PutsMarkedIn g.block b marks bytes) (IsMarkedIn g.block b marks) (slot_of m) (slot_of (with_block b m)) r

-- the write of the marked sectors of a block put nothing but these; in a VHD image also the bitmap of their block's slot, with no new bits but theirs, and the
-- sector of the table with the block's entry
abbrev pub MarksKeepToPlaces : Geometry → ℕ → Body → ℕ → List ℕ → List ℕ → Held → Held → Type 0
MarksKeepToPlaces g sectors body b marks bytes old new = Reaches (IsPlaceOfMarks g sectors body b marks bytes (reads old)) old new

-- once all is put that W says: the image, raw or VHD, holds these bytes, and of each other sector what it held
abbrev pub HasPut : Geometry → ℕ → Body → (ℕ → List ℕ → Type 0) → Held → Held → Type 0
HasPut g sectors body W old new = IsPutOver W (own_of g sectors body (reads old)) (own_of g sectors body (reads new))
