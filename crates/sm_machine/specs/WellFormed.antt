-- Which shapes a repository has (this project's format): what each step of the machine counts on and keeps.
use Rattle.std.specs.Prelude.{◌≡◌, ℕ, zero, suc, ◌+◌, ◌*◌, ◌^◌, ◌<◌, ◌≤◌, Bool, true, false, not, List, length, map, Option, Some, None, IsTrue}
use Rattle.std.specs.Ordering.{is_lt}
use Rattle.sm_base.specs.Names.{name_cmp, base_uuid}
use Rattle.sm_base.specs.Numbers.{IsGeometry}
use Rattle.sm_base.specs.declared.names.Name.{Name}
use Rattle.sm_base.specs.declared.names.Name.TheVariants.{Mgt, Vhd, Raw, Old, Cbt, Clone, Inflate, Coalesce, Relink, Leaf}
use Rattle.sm_base.specs.declared.operations.Mode.TheVariants.{Rw}
use Rattle.sm_machine.specs.Operations.{Op}
use Rattle.sm_machine.specs.Operations as op
use Rattle.sm_machine.specs.Disks.{Disk, uuid_before}
use Rattle.std.specs.Prelude.{is_some}
use Rattle.common_laws.specs.Lists.{In, Distinct, Sorted}
use Rattle.sm_machine.specs.Shapes.{Shape, ImageRow, DiskRecord, Attachment, image_limit, chain_limit, last_sequence, image_uuid, is_rw, is_there, is_vhd, parent_of, slot_at, attached_as, image_extents, thick_in}

-- ---- one image

-- the name of a VHD image or of a raw one
unfoldable pub is_image_name : Name → Bool
is_image_name (Vhd u) = true
is_image_name (Raw u) = true
is_image_name Mgt = false
is_image_name (Old u) = false
is_image_name (Cbt u) = false
is_image_name (Clone disk base twin) = false
is_image_name (Inflate image extents) = false
is_image_name (Coalesce child parent) = false
is_image_name (Relink child parent) = false
is_image_name (Leaf leaf parent) = false

-- the entries of an image's table: one for each block that it may have, and none for a raw image
unfoldable pub table_length : Shape → Name → ℕ
table_length s (Vhd u) = s.entries
table_length s Mgt = 0
table_length s (Raw u) = 0
table_length s (Old u) = 0
table_length s (Cbt u) = 0
table_length s (Clone disk base twin) = 0
table_length s (Inflate image extents) = 0
table_length s (Coalesce child parent) = 0
table_length s (Relink child parent) = 0
table_length s (Leaf leaf parent) = 0

-- a size is a whole number of blocks, from 1 to the number of entries
abbrev pub IsSize : Shape → ℕ → Type 0
IsSize s size = (blocks : ℕ) × (size ≡ blocks * s.block) × (0 < blocks) × (blocks ≤ s.entries)

-- an image has a volume and a table; a raw image has no parent and fills its volume
pub record IsImageRow (s : Shape) (i : ImageRow) : Type 0 where
  pub named : IsTrue (is_image_name i.name)
  pub whole : IsSize s i.size
  pub volume : 0 < i.extents
  pub table : length i.slots ≡ table_length s i.name
  pub raw : is_vhd i.name ≡ false → (i.parent ≡ None) × (i.size ≡ i.extents * s.extent)

-- ---- parents and chains

-- the parent is there, is hidden, and is not larger
pub record HasParent (images : List ImageRow) (i : ImageRow) (p : Name) : Type 0 where
  pub parent : ImageRow
  pub there : In parent images
  pub is_named : parent.name ≡ p
  pub is_hidden : parent.hidden ≡ true
  pub not_larger : parent.size ≤ i.size

-- the chain from an image up ends after at most so many images
abbrev pub EndsWithin : ℕ → Option Name → List ImageRow → Type 0
EndsWithin most None images = Unit {0}
EndsWithin zero (Some n) images = ⊥
EndsWithin (suc most) (Some n) images = EndsWithin most (parent_of n images) images

-- ---- disks

-- the disk of a UUID stands in a visible image, and has a record
abbrev pub HasImage : Shape → List ℕ → Type 0
HasImage s u = (i : ImageRow) × In i s.images × (i.hidden ≡ false) × (image_uuid i.name ≡ u)

abbrev pub HasRecord : Shape → List ℕ → Type 0
HasRecord s u = (r : DiskRecord) × In r s.records × (r.uuid ≡ u)

-- attachments are of disks, one for each; a disk attached for writing is no snapshot, and where it is a VHD image each
-- of its blocks has room
pub record AreAttachments (s : Shape) : Type 0 where
  pub once : Distinct (map (λ a. a.disk) s.attached)
  pub disks : (a : Attachment) → In a s.attached → HasRecord s a.disk
  pub writable : (a : Attachment) (r : DiskRecord) → In a s.attached → a.mode ≡ Rw → In r s.records → r.uuid ≡ a.disk → r.read_only ≡ false
  pub thick : (a : Attachment) (i : ImageRow) → In a s.attached → a.mode ≡ Rw → In i s.images → i.hidden ≡ false → image_uuid i.name ≡ a.disk → is_vhd i.name ≡ true → thick_in s i.size ≤ i.extents

-- ---- the operation

-- a VHD image, hidden or not, reads through a parent
pub record IsChild (s : Shape) (hidden : Bool) (v p : Name) : Type 0 where
  pub child : ImageRow
  pub there : In child s.images
  pub is_named : child.name ≡ v
  pub is_shown : child.hidden ≡ hidden
  pub vhd : is_vhd v ≡ true
  pub linked : child.parent ≡ Some p

-- it is the parent's only child, and has its size
pub record IsOnlyChild (s : Shape) (hidden : Bool) (v p : Name) : Type 0 where
  pub link : IsChild s hidden v p
  pub only : (i : ImageRow) → In i s.images → i.parent ≡ Some p → i.name ≡ v
  pub same_size : (q : ImageRow) → In q s.images → q.name ≡ p → q.size ≡ link.child.size

-- a leaf of a disk that is attached is folded: its parent has extents for all blocks where the disk is written to; dirty blocks are
-- blocks of the leaf below the cursor
pub record IsLive (s : Shape) (l p : Name) (cursor : ℕ) (dirty : List ℕ) : Type 0 where
  pub only : IsOnlyChild s false l p
  pub parent_vhd : is_vhd p ≡ true
  pub attached : is_some (attached_as (image_uuid l) s) ≡ true
  pub thick : is_rw (attached_as (image_uuid l) s) ≡ true → (q : ImageRow) → In q s.images → q.name ≡ p → thick_in s q.size ≤ q.extents
  pub within : cursor ≤ length only.link.child.slots
  pub blocks : (b : ℕ) → In b dirty → (b < cursor) × (is_there (slot_at only.link.child.slots b) ≡ true)

-- the images of an operation are there; the leaf of one that folds a leaf is not attached, that of a live one is
abbrev pub IsOperation : Shape → Op → Type 0
IsOperation s op.Idle = Unit {0}
IsOperation s (op.Copy v p cursor) = IsOnlyChild s true v p
IsOperation s (op.Relink v p) = IsChild s true v p
IsOperation s (op.Leaf l p cursor) = IsOnlyChild s false l p × (is_vhd p ≡ true) × (attached_as (image_uuid l) s ≡ None)
IsOperation s (op.Live l p cursor dirty) = IsLive s l p cursor dirty

-- ---- the shape

-- one name, or one UUID, may stand before another where the other does not come before it
abbrev pub name_le : Name → Name → Bool
name_le a b = not (is_lt (name_cmp b a))

abbrev pub uuid_le : List ℕ → List ℕ → Bool
uuid_le u v = not (uuid_before v u)

-- what holds of each shape that a repository comes to have, field by field
pub record IsWellFormed (s : Shape) : Type 0 where
  -- the repository's numbers; an extent is a whole number of blocks
  pub geometry : IsGeometry s.extent s.block s.entries
  pub blocks : (m : ℕ) × (s.extent ≡ m * s.block)
  pub sequence : s.sequence ≤ last_sequence
  -- the extents that volumes have are extents of the repository
  pub room : s.others + image_extents s.images ≤ s.extents
  -- images: not too many, in order of name, one for each UUID
  pub few : length s.images ≤ image_limit
  pub images_in_order : Sorted name_le (map (λ i. i.name) s.images)
  pub one_image : Distinct (map (λ i. image_uuid i.name) s.images)
  pub images : (i : ImageRow) → In i s.images → IsImageRow s i
  pub parents : (i : ImageRow) (p : Name) → In i s.images → i.parent ≡ Some p → HasParent s.images i p
  pub chains : (i : ImageRow) → In i s.images → EndsWithin chain_limit (Some i.name) s.images
  -- a UUID of the form of base images has a number that was used
  pub bases : (i : ImageRow) (n : ℕ) → In i s.images → n < 2 ^ 48 → image_uuid i.name ≡ base_uuid n → n < s.sequence
  -- records: in order of UUID, one for each visible image
  pub records_in_order : Sorted uuid_le (map (λ r. r.uuid) s.records)
  pub one_record : Distinct (map (λ r. r.uuid) s.records)
  pub disks : (r : DiskRecord) → In r s.records → HasImage s r.uuid
  pub visible : (i : ImageRow) → In i s.images → i.hidden ≡ false → HasRecord s (image_uuid i.name)
  -- attachments and the operation
  pub attachments : AreAttachments s
  pub operation : IsOperation s s.op

-- ---- disks and shape together

-- what the record of a disk says
abbrev pub record_of : Disk → DiskRecord
record_of d = record { uuid = d.uuid; label = d.label; origin = d.origin; read_only = d.read_only }

-- the disks are those of the records, in their order, and each is as large as its image
pub record AreDisksOf (disks : List Disk) (s : Shape) : Type 0 where
  pub recorded : map record_of disks ≡ s.records
  pub sizes : (d : Disk) (i : ImageRow) → In d disks → In i s.images → i.hidden ≡ false → image_uuid i.name ≡ d.uuid → length d.sectors ≡ i.size
