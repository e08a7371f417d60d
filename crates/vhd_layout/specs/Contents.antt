-- What an image says, without its footers, table and bitmaps: its size, the name of its parent, the slot of each
-- block, and the sectors that it holds. All of it is read off the image alone.
use Rattle.std.specs.Prelude.{ℕ, ◌+◌, ◌-◌, ◌/◌, ◌%◌, ◌==◌, nat_lt, if◌then◌else◌, List, [], map, Option, None, Some, option_and_then}
use Rattle.std.specs.List.{range_with_len}
use Rattle.std.specs.Option.{option_map_or}
use Rattle.sm_base.specs.declared.names.Name.{Name}
use Rattle.vhd_map.specs.Bitmaps.{is_set}
use Rattle.vhd_map.specs.Places.{blank}
use Rattle.vhd_layout.specs.Layouts.{Sectors, Layout, layout_of, entry}
use Rattle.vhd_layout.specs.Images.{footer_at, header_at}

-- its size in sectors, its parent's name or none, the slot of each block that the table has an entry for, or none,
-- and the bytes of each sector that it holds
pub record ImageContent : Type 0 where
  pub size : ℕ
  pub parent : Option Name
  pub slots : List (Option ℕ)
  pub own : ℕ → Option (List ℕ)

-- sector i of block b, where the image holds it: the block has a slot, and the sector's bit is set there
unfoldable pub value : Sectors → ℕ → ℕ → Option (List ℕ)
value v b i =
    if entry v b == blank then None
    else if is_set (v (entry v b)) i then Some (v (entry v b + (1 + i)))
    else None

-- the size that the footer gives, in sectors; 0 where no footer reads
unfoldable pub size_at : ℕ → Sectors → ℕ
size_at sectors v = option_map_or (λ footer. footer.current / 512) (footer_at sectors v) 0

-- the parent that the header gives
unfoldable pub parent_at : Sectors → Option Name
parent_at v = option_and_then (λ header. header.parent) (header_at v)

-- the sector of the disk, where the image holds it; past its size it holds none
unfoldable pub own : ℕ → ℕ → Sectors → ℕ → Option (List ℕ)
own block size v s = if nat_lt s size then value v (s / block) (s % block) else None

-- the layout of the image, by the size that its footer gives
abbrev pub layout_at : ℕ → ℕ → ℕ → Sectors → Layout
layout_at block entries sectors v = layout_of block entries (size_at sectors v / block) sectors

-- the number of the slot that begins at a sector, where one does
unfoldable pub slot_number : Layout → ℕ → ℕ
slot_number l sector = (sector - l.first) / (1 + l.block)

-- the slot of block b, by its own entry
unfoldable pub slot_at : Layout → Sectors → ℕ → Option ℕ
slot_at l v b = if entry v b == blank then None else Some (slot_number l (entry v b))

-- the slots of all blocks that the table has entries for, in order
abbrev pub slots_at : Layout → Sectors → List (Option ℕ)
slots_at l v = map (slot_at l v) (range_with_len 0 l.entries)

-- what the image says in the first so many sectors of a volume, in a repository with so many sectors a block and
-- so many entries a table
abbrev pub content_at : ℕ → ℕ → ℕ → Sectors → ImageContent
content_at block entries sectors v = record {
  size = size_at sectors v;
  parent = parent_at v;
  slots = slots_at (layout_at block entries sectors v) v;
  own = own block (size_at sectors v) v;
}

-- a raw image is all sectors of its volume; it has no parent and no slots, and holds each of its sectors
abbrev pub raw_content : ℕ → Sectors → ImageContent
raw_content sectors v = record {
  size = sectors;
  parent = None;
  slots = [];
  own = λ s. if nat_lt s sectors then Some (v s) else None;
}
