-- The shape of a repository: all that decides what a command is answered, without the bytes of a sector (this project's
-- format). Sizes are in sectors, room is counted in extents. An image is a volume that holds a disk's sectors, or the
-- sectors that several disks share: a VHD image has a table with an entry for each block, which is the slot where the
-- block stands, or none; a raw image has no table and holds each of its sectors.
use Rattle.std.specs.Prelude.{ℕ, zero, suc, ◌+◌, ◌-◌, ◌^◌, min, max, ◌==◌, ◌&&◌, not, Bool, true, false, List, [], ◌∷◌, length, Option, Some, None}
use Rattle.std.specs.List.{filter, list_any, find, slice_index_or}
use Rattle.std.specs.Ordering.{is_lt}
use Rattle.std.specs.Str.{bytes_eq}
use Rattle.sm_base.specs.Names.{name_cmp}
use Rattle.sm_base.specs.Numbers.{thin, thick}
use Rattle.sm_base.specs.declared.names.Name.{Name}
use Rattle.sm_base.specs.declared.names.Name.TheVariants.{Mgt, Vhd, Raw, Old, Cbt, Clone, Inflate, Coalesce, Relink, Leaf}
use Rattle.sm_base.specs.declared.operations.Mode.{Mode}
use Rattle.sm_base.specs.declared.operations.Mode.TheVariants.{Ro, Rw}
use Rattle.sm_machine.specs.Operations.{Op}
use Rattle.sm_machine.specs.Operations.{Idle}
use Rattle.common_laws.specs.Lists.{change, insert_by, ◌>>=◌}
use Rattle.sm_log.specs.Logs.{Log}

-- an image: its volume's name and number of extents, whether it is hidden from users, the image that it reads through
-- where it has no sector of its own, its size in sectors, and its table
pub record ImageRow : Type 0 where
  pub name : Name
  pub hidden : Bool
  pub parent : Option Name
  pub size : ℕ
  pub slots : List (Option ℕ)
  pub extents : ℕ

-- what is kept of a disk beside its image
pub record DiskRecord : Type 0 where
  pub uuid : List ℕ
  pub label : List ℕ
  pub origin : Option (List ℕ)
  pub read_only : Bool

-- a disk in use
pub record Attachment : Type 0 where
  pub disk : List ℕ
  pub mode : Mode

-- `extent` and `block` are in sectors, `entries` is the number of entries of each image's table, `extents` is the number
-- of extents of the repository, `others` the number of those that volumes other than these images have, logs among them.
-- Records and logs stand in order of UUID, images in order of name, attachments in the order in which they were made
pub record Shape : Type 0 where
  pub sequence : ℕ
  pub extent : ℕ
  pub block : ℕ
  pub entries : ℕ
  pub extents : ℕ
  pub others : ℕ
  pub records : List DiskRecord
  pub images : List ImageRow
  pub logs : List Log
  pub attached : List Attachment
  pub op : Op

-- the shape of a new repository: no disk, no image, and the extents that other volumes have
abbrev pub new_shape : ℕ → ℕ → ℕ → ℕ → ℕ → Shape
new_shape extent block entries extents others = record {
  sequence = 1;
  extent = extent;
  block = block;
  entries = entries;
  extents = extents;
  others = others;
  records = [];
  images = [];
  logs = [];
  attached = [];
  op = Idle;
}

-- the most images of a repository
abbrev pub image_limit : ℕ
image_limit = 500

-- the most images of a chain
abbrev pub chain_limit : ℕ
chain_limit = 30

-- the most sectors of one read
abbrev pub read_limit : ℕ
read_limit = 128

-- the greatest sequence number, which a commit leaves as it is
abbrev pub last_sequence : ℕ
last_sequence = 2 ^ 48 - 1

-- the sequence number after so many commits
abbrev pub risen : ℕ → ℕ → ℕ
risen sequence commits = min (sequence + commits) last_sequence

-- ---- names of images

-- whether two names are the name of one image
unfoldable pub same_image : Name → Name → Bool
same_image (Vhd u) (Vhd v) = bytes_eq u v
same_image (Raw u) (Raw v) = bytes_eq u v
same_image (Vhd u) Mgt = false
same_image (Vhd u) (Raw v) = false
same_image (Vhd u) (Old v) = false
same_image (Vhd u) (Cbt v) = false
same_image (Vhd u) (Clone disk base twin) = false
same_image (Vhd u) (Inflate image extents) = false
same_image (Vhd u) (Coalesce child parent) = false
same_image (Vhd u) (Relink child parent) = false
same_image (Vhd u) (Leaf leaf parent) = false
same_image (Raw u) Mgt = false
same_image (Raw u) (Vhd v) = false
same_image (Raw u) (Old v) = false
same_image (Raw u) (Cbt v) = false
same_image (Raw u) (Clone disk base twin) = false
same_image (Raw u) (Inflate image extents) = false
same_image (Raw u) (Coalesce child parent) = false
same_image (Raw u) (Relink child parent) = false
same_image (Raw u) (Leaf leaf parent) = false
same_image Mgt n = false
same_image (Old u) n = false
same_image (Cbt u) n = false
same_image (Clone disk base twin) n = false
same_image (Inflate image extents) n = false
same_image (Coalesce child parent) n = false
same_image (Relink child parent) n = false
same_image (Leaf leaf parent) n = false

-- the UUID in the name of an image
unfoldable pub image_uuid : Name → List ℕ
image_uuid (Vhd u) = u
image_uuid (Raw u) = u
image_uuid Mgt = []
image_uuid (Old u) = []
image_uuid (Cbt u) = []
image_uuid (Clone disk base twin) = []
image_uuid (Inflate image extents) = []
image_uuid (Coalesce child parent) = []
image_uuid (Relink child parent) = []
image_uuid (Leaf leaf parent) = []

-- whether a name is that of a VHD image
unfoldable pub is_vhd : Name → Bool
is_vhd (Vhd u) = true
is_vhd Mgt = false
is_vhd (Raw u) = false
is_vhd (Old u) = false
is_vhd (Cbt u) = false
is_vhd (Clone disk base twin) = false
is_vhd (Inflate image extents) = false
is_vhd (Coalesce child parent) = false
is_vhd (Relink child parent) = false
is_vhd (Leaf leaf parent) = false

-- the same kind of image under another UUID
unfoldable pub renamed : Name → List ℕ → Name
renamed (Vhd u) v = Vhd v
renamed (Raw u) v = Raw v
renamed Mgt v = Mgt
renamed (Old u) v = Old u
renamed (Cbt u) v = Cbt u
renamed (Clone disk base twin) v = Clone disk base twin
renamed (Inflate image extents) v = Inflate image extents
renamed (Coalesce child parent) v = Coalesce child parent
renamed (Relink child parent) v = Relink child parent
renamed (Leaf leaf parent) v = Leaf leaf parent

-- ---- a table

-- the slot of a block, if it has one
abbrev pub slot_at : List (Option ℕ) → ℕ → Option ℕ
slot_at slots b = slice_index_or slots b None

abbrev pub is_there : {A : Type 0} → Option A → Bool
is_there None = false
is_there (Some x) = true

-- the number of blocks that have a slot
unfoldable pub count_blocks : List (Option ℕ) → ℕ
count_blocks [] = 0
count_blocks (None ∷ slots) = count_blocks slots
count_blocks (Some k ∷ slots) = 1 + count_blocks slots

-- one more than the highest slot in use, else 0
unfoldable pub top : List (Option ℕ) → ℕ
top [] = 0
top (None ∷ slots) = top slots
top (Some k ∷ slots) = max (k + 1) (top slots)

-- whether a slot is in use
abbrev pub has_slot : ℕ → List (Option ℕ) → Bool
has_slot k [] = false
has_slot k (None ∷ slots) = has_slot k slots
has_slot k (Some j ∷ slots) = elim (j == k) [ true ↦ true | false ↦ has_slot k slots ]

-- ---- images, children, chains

-- whether this is the image of a name
abbrev pub is_image : Name → ImageRow → Bool
is_image n i = same_image i.name n

abbrev pub find_image : Name → List ImageRow → Option ImageRow
find_image n images = find (is_image n) images

-- one image more, in its place
unfoldable pub with_image : ImageRow → List ImageRow → List ImageRow
with_image i images = insert_by (λ a b. is_lt (name_cmp a.name b.name)) i images

-- one image less
abbrev pub without_image : Name → List ImageRow → List ImageRow
without_image n images = filter (λ i. not (is_image n i)) images

-- one image changed
abbrev pub on_image : Name → (ImageRow → ImageRow) → List ImageRow → List ImageRow
on_image n f images = change (is_image n) f images

abbrev pub is_parent : Name → Option Name → Bool
is_parent n None = false
is_parent n (Some p) = same_image p n

-- the images that read through the image of a name, in order
unfoldable pub children : Name → List ImageRow → List ImageRow
children n images = filter (λ i. is_parent n i.parent) images

abbrev pub parent_of : Name → List ImageRow → Option Name
parent_of n images = do
  i ← find_image n images
  i.parent

-- the names from an image up to the one that has no parent, at most so many
unfoldable pub chain : ℕ → Name → List ImageRow → List Name
chain zero n images = []
chain (suc most) n images = n ∷ elim (parent_of n images) [ None ↦ [] | Some p ↦ chain most p images ]

-- ---- disks by the shape

-- whether this is the image in which the disk of a UUID stands
abbrev pub is_image_of : List ℕ → ImageRow → Bool
is_image_of u i = not i.hidden && bytes_eq (image_uuid i.name) u

abbrev pub disk_image : List ℕ → Shape → Option ImageRow
disk_image u s = find (is_image_of u) s.images

abbrev pub disk_record : List ℕ → Shape → Option DiskRecord
disk_record u s = find (λ r. bytes_eq r.uuid u) s.records

-- how a disk is attached, if it is
abbrev pub mode_in : List ℕ → List Attachment → Option Mode
mode_in u attached = do
  a ← find (λ a. bytes_eq a.disk u) attached
  Some a.mode

abbrev pub attached_as : List ℕ → Shape → Option Mode
attached_as u s = mode_in u s.attached

abbrev pub is_rw : Option Mode → Bool
is_rw (Some Rw) = true
is_rw (Some Ro) = false
is_rw None = false

abbrev pub is_ro : Option Mode → Bool
is_ro (Some Ro) = true
is_ro (Some Rw) = false
is_ro None = false

-- whether the image of a name is in the chain of a disk
abbrev pub reads_through : Name → Shape → List ℕ → Bool
reads_through n s u = elim (disk_image u s) [ None ↦ false | Some i ↦ list_any (same_image n) (chain chain_limit i.name s.images) ]

-- the number of attached disks whose chain has the image of a name
unfoldable pub refs : Name → Shape → ℕ
refs n s = length (filter (λ a. reads_through n s a.disk) s.attached)

-- ---- room

-- the extents of all images
unfoldable pub image_extents : List ImageRow → ℕ
image_extents [] = 0
image_extents (i ∷ images) = i.extents + image_extents images

-- the extents that no volume has
unfoldable pub free : Shape → ℕ
free s = s.extents - (s.others + image_extents s.images)

-- the extents of an image with so many slots
abbrev pub thin_in : Shape → ℕ → ℕ
thin_in s slots = thin s.extent s.block s.entries slots

-- the extents of an image of so many sectors with a slot for each block
abbrev pub thick_in : Shape → ℕ → ℕ
thick_in s size = thick s.extent s.block s.entries size
