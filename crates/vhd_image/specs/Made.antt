-- The head of a new image, and the link of an image to its parent (Virtual Hard Disk Image Format Specification 1.0, with
-- this project's profile).
use Rattle.std.specs.Prelude.{◌≡◌, ℕ, ◌+◌, ◌*◌, ◌/◌, ◌≤◌, ◌<◌, List, length, codes, replicate, Option, None, Some}
use Rattle.sm_base.specs.Numbers.{first}
use Rattle.sm_base.specs.declared.names.Name.{Name}
use Rattle.sm_base.specs.declared.sizes.Geometry.{Geometry}
use Rattle.sm_disk.specs.Held.{Held, reads}
use Rattle.vg_volumes.specs.Stored.{Stored}
use Rattle.vhd_fields.specs.ParentNames.{IsParent}
use Rattle.vhd_fields.specs.declared.footers.Footer.{Footer}
use Rattle.vhd_fields.specs.declared.headers.Header.{Header}
use Rattle.vhd_map.specs.Places.{code}
use Rattle.vhd_map.specs.Slots.{slot_of}
use Rattle.vhd_layout.specs.Layouts.{Sectors, entry}
use Rattle.vhd_layout.specs.Images.{IsImage}
use Rattle.vhd_volumes.specs.declared.heads.Head.{Head}
use Rattle.vhd_volumes.specs.Truth.{layout_now}
use Rattle.vhd_image.specs.declared.images.Body.{Body}
use Rattle.vhd_image.specs.declared.images.Body.TheVariants.{Raw, Vhd}
use Rattle.vhd_image.specs.Bodies.{volume_name, sector_count}

-- the size of a disk in sectors: a whole number of blocks, from 1 to the number of entries
pub record IsDiskSize (g : Geometry) (sectors : ℕ) : Type 0 where
  pub whole : sectors ≡ sectors / g.block * g.block
  pub least : 1 ≤ sectors / g.block
  pub most : sectors / g.block ≤ g.entries

-- sixteen zeros
abbrev pub no_uid : List ℕ
no_uid = replicate 16 0

-- the unique id and the time stamp that a child's header gives of its parent: zeros of a raw one
abbrev pub uid_of : Body → List ℕ
uid_of (Raw volume sectors) = no_uid
uid_of (Vhd head m) = head.footer.uid

abbrev pub stamp_of : Body → ℕ
stamp_of (Raw volume sectors) = 0
stamp_of (Vhd head m) = head.footer.stamp

-- the header once it names this parent
abbrev pub linked : Header → Body → Header
linked header parent = record header { parent_uid = uid_of parent; parent_stamp = stamp_of parent; parent = Some (volume_name parent) }

-- the header of an image without a parent
abbrev pub alone : Geometry → Header
alone g = record {
  table_offset = 1536;
  entries = g.entries;
  block = 512 * g.block;
  parent_uid = no_uid;
  parent_stamp = 0;
  parent = None;
}

-- the header of a new image
abbrev pub new_header : Geometry → Option Body → Header
new_header g None = alone g
new_header g (Some parent) = linked (alone g) parent

-- the disk type: dynamic, or differencing where it has a parent
abbrev pub kind_of : Option Body → ℕ
kind_of None = 3
kind_of (Some parent) = 4

-- the footer of a new image of so many sectors
abbrev pub new_footer : ℕ → ℕ → List ℕ → Option Body → Footer
new_footer now sectors uid parent = record {
  stamp = now;
  creator = codes "lvhd";
  creator_version = 65536;
  host = 0;
  original = 512 * sectors;
  current = 512 * sectors;
  kind = kind_of parent;
  data_offset = 512;
  uid = uid;
}

-- the head of a new image in a volume: made now, of so many sectors, with a unique id and perhaps a parent
abbrev pub new_head : Geometry → Name → ℕ → ℕ → List ℕ → Option Body → Head
new_head g volume now sectors uid parent = record { volume = volume; footer = new_footer now sectors uid parent; header = new_header g parent }

-- a read of its volume gives the image with this head and no slots
abbrev pub IsNewImage : Stored → Head → Held → Type 0
IsNewImage x head h = IsImage (layout_now x head) (reads h) head.footer head.header (λ b. None)

-- an image may have this parent: a VHD image or a raw one
abbrev pub IsParentImage : Body → Type 0
IsParentImage parent = IsParent (Some (volume_name parent))

-- an image of so many sectors may have this parent: its name is proper, and it is no larger
abbrev pub MayHave : ℕ → Body → Type 0
MayHave sectors parent = IsParentImage parent × (sector_count parent ≤ sectors)

-- the map may be that of a disk of so many sectors: it has the repository's number of entries, and blocks of the disk alone have slots
pub record IsMapOf (g : Geometry) (sectors : ℕ) (m : List (Option ℕ)) : Type 0 where
  pub entries : length m ≡ g.entries
  pub sized : (b slot : ℕ) → slot_of m b ≡ Some slot → b < sectors / g.block

-- a sector of the table
abbrev pub IsInTable : Geometry → ℕ → Type 0
IsInTable g p = (3 ≤ p) × (p < first g.entries)

-- a sector between the table and the last of so many
abbrev pub IsInSlots : Geometry → ℕ → ℕ → Type 0
IsInSlots g sectors p = (first g.entries ≤ p) × (p + 1 < sectors)

-- each entry of the table in front of this one is that of the map
abbrev pub HasEntriesTo : ℕ → Geometry → List (Option ℕ) → Sectors → Type 0
HasEntriesTo end g m v = (b : ℕ) → b < end → entry v b ≡ code (first g.entries) g.block (slot_of m b)
