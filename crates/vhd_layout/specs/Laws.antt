-- What follows from the definitions: the arithmetic of places, that a volume holds one image at most, and what
-- its content is by its map.
use Rattle.std.specs.Prelude.{◌≡◌, ℕ, ◌+◌, ◌-◌, ◌*◌, ◌/◌, ◌<◌, ◌≤◌, List, Option, None, Some, if◌then◌else◌}
use Rattle.std.specs.Bool.{Decides}
use Rattle.sm_base.specs.Numbers.{IsGeometry}
use Rattle.vhd_fields.specs.declared.footers.Footer.{Footer}
use Rattle.vhd_fields.specs.declared.headers.Header.{Header}
use Rattle.vhd_map.specs.Bitmaps.{is_set}
use Rattle.vhd_map.specs.Places.{blank, IsReadable}
use Rattle.vhd_map.specs.Slots.{slot_of}
use Rattle.vhd_layout.specs.Layouts.{Sectors, Layout, IsLayout, layout_of, place, slot_count, entry, code, entries_in_sectors, Slots}
use Rattle.vhd_layout.specs.Images.{IsHead, IsImage, IsValid}
use Rattle.vhd_layout.specs.Readings.{is_valid}
use Rattle.vhd_layout.specs.Contents.{value, size_at, parent_at, layout_at, slots_at}

-- no part of a slot stands in front of slot 0
abbrev pub PlaceFirst : Type 0
PlaceFirst = (l : Layout) (k j : ℕ) → l.first ≤ place l k j

-- each part of a slot stands in front of the footer
abbrev pub PlaceWithin : Type 0
PlaceWithin = (l : Layout) (k j : ℕ) → k < slot_count l → j < 1 + l.block → place l k j < l.sectors - 1

-- two parts of slots that stand in one sector are one part of one slot
abbrev pub PlaceSame : Type 0
PlaceSame = (l : Layout) (k other i j : ℕ) → i < 1 + l.block → j < 1 + l.block → place l k i ≡ place l other j → (k ≡ other) × (i ≡ j)

-- part j of a slot stands j sectors behind its bitmap
abbrev pub PlacePart : Type 0
PlacePart = (l : Layout) (k j : ℕ) → place l k j ≡ place l k 0 + j

-- the entry of a slot is below the blank one
abbrev pub PlaceSmall : Type 0
PlaceSmall = (l : Layout) (k : ℕ) → IsLayout l → k < l.entries → code l (Some k) < blank

-- the table stands in front of slot 0
abbrev pub TableFirst : Type 0
TableFirst = (l : Layout) (b : ℕ) → IsLayout l → b < entries_in_sectors l → 3 + b / 128 < l.first

-- the numbers of a repository's geometry are those of its images
abbrev pub LayoutOf : Type 0
LayoutOf = (extent block entries blocks sectors : ℕ) → IsGeometry extent block entries → IsLayout (layout_of block entries blocks sectors)

-- so many slots have room where so many slots and the footer have room behind the table
abbrev pub SlotsFit : Type 0
SlotsFit = (l : Layout) (top : ℕ) → l.first + top * (1 + l.block) + 1 ≤ l.sectors → top ≤ slot_count l

-- so many slots have room only where so many slots and the footer have room behind the table
abbrev pub SlotsNeed : Type 0
SlotsNeed = (l : Layout) (top : ℕ) → l.first + 1 ≤ l.sectors → top ≤ slot_count l → l.first + top * (1 + l.block) + 1 ≤ l.sectors

-- two maps whose entries are the same below T are one map there
abbrev pub CodeSame : Type 0
CodeSame = (l : Layout) (m n : Slots) (b : ℕ) → IsLayout l → ((k : ℕ) → m b ≡ Some k → k < l.entries) → ((k : ℕ) → n b ≡ Some k → k < l.entries) → code l (m b) ≡ code l (n b) → m b ≡ n b

-- a volume has one head at most: footers, headers and numbers of blocks of two are the same
pub record SameHead (footer footer' : Footer) (header header' : Header) (blocks blocks' : ℕ) : Type 0 where
  pub footers : footer ≡ footer'
  pub headers : header ≡ header'
  pub sizes : blocks ≡ blocks'

-- two heads of which the same sectors are true are the same
abbrev pub OneHead : Type 0
OneHead = (block entries blocks blocks' sectors : ℕ) (v : Sectors) (footer footer' : Footer) (header header' : Header) → 8 ≤ block → IsHead (layout_of block entries blocks sectors) v footer header → IsHead (layout_of block entries blocks' sectors) v footer' header' → SameHead footer footer' header header' blocks blocks'

-- an image has one map
abbrev pub OneMap : Type 0
OneMap = (l : Layout) (v : Sectors) (footer footer' : Footer) (header header' : Header) (m n : Slots) → IsLayout l → IsImage l v footer header m → IsImage l v footer' header' n → (b : ℕ) → m b ≡ n b

-- two volumes with the same first three sectors and the same last one have the same head
abbrev pub HeadKept : Type 0
HeadKept = (l : Layout) (v w : Sectors) (footer : Footer) (header : Header) → w 0 ≡ v 0 → w 1 ≡ v 1 → w 2 ≡ v 2 → w (l.sectors - 1) ≡ v (l.sectors - 1) → IsHead l v footer header → IsHead l w footer header

-- where a block has a slot the image holds those of its sectors whose bit is set there
abbrev pub ValueWithSlot : Type 0
ValueWithSlot = (l : Layout) (v : Sectors) (m : Slots) (b k i : ℕ) → IsLayout l → entry v b ≡ code l (m b) → m b ≡ Some k → k < l.entries → value v b i ≡ (if is_set (v (place l k 0)) i then Some (v (place l k (1 + i))) else None)

-- where it has none the image holds none of its sectors
abbrev pub ValueWithoutSlot : Type 0
ValueWithoutSlot = (l : Layout) (v : Sectors) (m : Slots) (b i : ℕ) → entry v b ≡ code l (m b) → m b ≡ None → value v b i ≡ None

-- the content of an image has the size of its blocks and its header's parent
abbrev pub ContentOfHead : Type 0
ContentOfHead = (l : Layout) (v : Sectors) (footer : Footer) (header : Header) → IsHead l v footer header → (size_at l.sectors v ≡ l.blocks * l.block) × (parent_at v ≡ header.parent)

-- Each sector of the table of a valid image can be read into a map that has the image's slots in front of that
-- sector's entries and none from them on; `few` is the number of slots, or T where that is less.
abbrev pub TableReadable : Type 0
TableReadable = (l : Layout) (v : Sectors) (footer : Footer) (header : Header) (m : Slots) (so_far : List (Option ℕ)) (index few : ℕ) → IsLayout l → IsImage l v footer header m → 128 * index < l.entries → ((b : ℕ) → b < 128 * index → slot_of so_far b ≡ m b) → ((b : ℕ) → 128 * index ≤ b → slot_of so_far b ≡ None) → ((k : ℕ) → k < l.entries → k < slot_count l → k < few) → IsReadable l.first l.block l.blocks few so_far index (v (3 + index))

-- the test answers true exactly where the volume holds a valid image
abbrev pub ValidDecided : Type 0
ValidDecided = (extent block entries sectors : ℕ) (v : Sectors) → IsGeometry extent block entries → Decides (is_valid block entries sectors v) (IsValid block entries sectors v)

-- the slot that an entry names is that of the image's map
abbrev pub SlotsOfTable : Type 0
SlotsOfTable = (l : Layout) (v : Sectors) (footer : Footer) (header : Header) (m : Slots) (b : ℕ) → IsLayout l → IsImage l v footer header m → b < l.entries → slot_of (slots_at l v) b ≡ m b

-- the layout of an image is that of its footer's size
abbrev pub LayoutAt : Type 0
LayoutAt = (block entries blocks sectors : ℕ) (v : Sectors) (footer : Footer) (header : Header) → 8 ≤ block → IsHead (layout_of block entries blocks sectors) v footer header → layout_at block entries sectors v ≡ layout_of block entries blocks sectors
