-- The image in a volume: which volumes hold a valid one (Microsoft Virtual Hard Disk Image Format Specification
-- 1.0, with this project's profile: one block size and one number of entries in a repository).
use Rattle.std.specs.Prelude.{◌≡◌, ◌≢◌, ℕ, ◌+◌, ◌-◌, ◌*◌, ◌<◌, ◌≤◌, ◌⊎◌, ◌==◌, ◌++◌, Option, Some, is_some, true}
use Rattle.std.specs.Option.{option_or}
use Rattle.std.specs.Result.{result_ok}
use Rattle.vhd_fields.specs.declared.footers.Footer.{Footer}
use Rattle.vhd_fields.specs.declared.headers.Header.{Header}
use Rattle.vhd_fields.specs.Footers.{footer_read}
use Rattle.vhd_fields.specs.Headers.{header_read}
use Rattle.vhd_map.specs.Bitmaps.{is_set}
use Rattle.vhd_map.specs.Places.{blank}
use Rattle.vhd_layout.specs.Layouts.{Sectors, Layout, layout_of, Slots, IsSlots, entry, code, entries_in_sectors}

-- the footer of an image of so many sectors: that of the last sector where it reads, else the copy in sector 0
-- where that reads
unfoldable pub footer_at : ℕ → Sectors → Option Footer
footer_at sectors v = option_or (result_ok (footer_read (v (sectors - 1)))) (result_ok (footer_read (v 0)))

-- the header in sectors 1 and 2, where it reads
unfoldable pub header_at : Sectors → Option Header
header_at v = result_ok (header_read (v 1 ++ v 2))

-- The footer is that of a dynamic or a differencing disk, whose size is a whole number of blocks, from 1 to the
-- number of entries.
pub record IsFooterOf (l : Layout) (footer : Footer) : Type 0 where
  pub kind : (footer.kind ≡ 3) ⊎ (footer.kind ≡ 4)
  pub size : footer.current ≡ 512 * (l.blocks * l.block)
  pub least : 1 ≤ l.blocks
  pub most : l.blocks ≤ l.entries

-- The header has the table behind it, and the repository's number of entries and size of a block. It names a
-- parent exactly where the disk is a differencing one.
pub record IsHeaderOf (l : Layout) (footer : Footer) (header : Header) : Type 0 where
  pub table_offset : header.table_offset ≡ 1536
  pub entries : header.entries ≡ l.entries
  pub block : header.block ≡ 512 * l.block
  pub parent : is_some header.parent ≡ (footer.kind == 4)

-- The volume begins with this footer and this header: both read so and are as above, and behind the table at
-- least the footer has room.
pub record IsHead (l : Layout) (v : Sectors) (footer : Footer) (header : Header) : Type 0 where
  pub footer_reads : footer_at l.sectors v ≡ Some footer
  pub footer_fits : IsFooterOf l footer
  pub header_reads : header_at v ≡ Some header
  pub header_fits : IsHeaderOf l footer header
  pub room : l.first + 1 ≤ l.sectors

-- The volume holds an image with this footer, this header and this map: each entry of the table, up to the end of
-- its last sector, is that of the map, and the map's slots lie in the image.
pub record IsImage (l : Layout) (v : Sectors) (footer : Footer) (header : Header) (m : Slots) : Type 0 where
  pub head : IsHead l v footer header
  pub table : (b : ℕ) → b < entries_in_sectors l → entry v b ≡ code l (m b)
  pub slots : IsSlots l m

-- the volume holds a valid image in its first so many sectors, in a repository with so many sectors a block and
-- so many entries a table
abbrev pub IsValid : ℕ → ℕ → ℕ → Sectors → Type 0
IsValid block entries sectors v =
    (blocks : ℕ) × (footer : Footer) × (header : Header) × (m : Slots) × IsImage (layout_of block entries blocks sectors) v footer header m

-- A raw image is all sectors of its volume, without footer, header, table or bitmaps. It is valid where it has at
-- most as many blocks as a table has entries.
abbrev pub IsValidRaw : ℕ → ℕ → ℕ → Type 0
IsValidRaw block entries sectors = sectors ≤ entries * block

-- each block that has a slot holds at least one sector; so says the image alone, by its own entries
pub record EachSlotHolds (block entries : ℕ) (v : Sectors) : Type 0 where
  pub holds : (b : ℕ) → b < entries → entry v b ≢ blank → (i : ℕ) × (i < block) × (is_set (v (entry v b)) i ≡ true)
