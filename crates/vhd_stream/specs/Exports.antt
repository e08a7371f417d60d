-- The file that a disk is exported as: a dynamic VHD file that stands by itself (Microsoft Virtual Hard Disk Image Format
-- Specification 1.0, 'Dynamic Hard Disk Image'). It has a footer, a header, the table, the blocks that are there in order and without
-- gaps, and the footer again. A block is there where an image of the disk's chain has a slot for it, or where a raw image of the chain
-- reaches it.
use Rattle.std.specs.Prelude.{◌≡◌, ℕ, zero, suc, ◌+◌, ◌-◌, ◌*◌, ◌/◌, nat_lt, Bool, false, ◌&&◌, ◌||◌, List, [], ◌∷◌, ◌++◌, length, map, take, drop, replicate, Option, None, Some, is_some, if◌then◌else◌}
use Rattle.std.specs.List.{concat, flat_map, range_with_len}
use Rattle.byteorder.specs.Endian.{big_bytes}
use Rattle.sm_base.specs.Numbers.{div_up}
use Rattle.sm_base.specs.declared.names.Name.{Name}
use Rattle.sm_machine.specs.Shapes.{chain_limit, is_vhd}
use Rattle.vhd_fields.specs.declared.footers.Footer.{Footer}
use Rattle.vhd_fields.specs.declared.headers.Header.{Header}
use Rattle.vhd_fields.specs.Footers.{footer_bytes}
use Rattle.vhd_fields.specs.Headers.{header_bytes}
use Rattle.vhd_image.specs.Made.{new_footer, no_uid}
use Rattle.vhd_map.specs.Places.{blank}
use Rattle.vhd_map.specs.Slots.{slot_of}
use Rattle.sm_standing.specs.Contents.{Content}
use Rattle.sm_standing.specs.Images.{image_of, sectors_read}
use Rattle.sm_standing.specs.Standing.{standing_volume}
use Rattle.vhd_stream.specs.Files.{File}

-- a disk by its blocks: how many sectors a block has, which blocks are there, and the sectors of the disk, whole blocks of them
pub record DiskBlocks : Type 0 where
  pub block : ℕ
  pub there : ℕ → Bool
  pub sectors : List (List ℕ)

-- how many blocks a disk has
abbrev pub block_count : DiskBlocks → ℕ
block_count x = length x.sectors / x.block

-- the footer of the file that a disk of so many sectors is exported as: that of a new image without a parent
abbrev pub export_footer : ℕ → List ℕ → ℕ → Footer
export_footer size uuid now = new_footer now size uuid None

-- the header of the file that a disk of so many blocks is exported as, each of so many sectors
abbrev pub export_header : ℕ → ℕ → Header
export_header blocks block = record {
  table_offset = 1536;
  entries = blocks;
  block = 512 * block;
  parent_uid = no_uid;
  parent_stamp = 0;
  parent = None;
}

-- a bitmap that holds each sector of a block, and zeros behind it
unfoldable pub full_bitmap : ℕ → List ℕ
full_bitmap block = replicate (block / 8) 255 ++ replicate (512 - block / 8) 0

-- the sectors of block b in the file: its bitmap and its sectors, or none
unfoldable pub piece : DiskBlocks → ℕ → List (List ℕ)
piece x b = if x.there b then full_bitmap x.block ∷ take x.block (drop (b * x.block) x.sectors) else []

-- the sectors of the first so many blocks in the file
abbrev pub pieces : DiskBlocks → ℕ → List (List ℕ)
pieces x count = flat_map (piece x) (range_with_len 0 count)

-- how many sectors the table of the file has
abbrev pub table_sectors : DiskBlocks → ℕ
table_sectors x = div_up (block_count x) 128

-- the sector of the file at which block b begins, where it is there
unfoldable pub place : DiskBlocks → ℕ → ℕ
place x b = 3 + table_sectors x + length (pieces x b)

-- the entry of block b in the table of the file: where the block begins, or all ones where it is not there or the disk has no such block
unfoldable pub entry_of : DiskBlocks → ℕ → ℕ
entry_of x b = if nat_lt b (block_count x) && x.there b then place x b else blank

-- a sector of the table of the file: 128 entries
unfoldable pub table_sector : DiskBlocks → ℕ → List ℕ
table_sector x t = flat_map (λ b. big_bytes 4 (entry_of x b)) (range_with_len (128 * t) 128)

-- the file that a disk is exported as
abbrev pub exported : DiskBlocks → List ℕ → ℕ → File
exported x uuid now =
    let footer : List ℕ = footer_bytes (export_footer (length x.sectors) uuid now) in
    let header : List ℕ = header_bytes (export_header (block_count x) x.block) in
    footer ∷ take 512 header ∷ drop 512 header ∷ (map (table_sector x) (range_with_len 0 (table_sectors x)) ++ (pieces x (block_count x) ++ footer ∷ []))

-- ---- of a disk

-- an image of so many sectors and with these slots has block b: a VHD image has a slot for it, and a raw one reaches it
unfoldable pub has_block : ℕ → Name → ℕ → List (Option ℕ) → ℕ → Bool
has_block block n size slots b = if is_vhd n then is_some (slot_of slots b) else nat_lt (b * block) size

-- some image of the chain of an image has block b, of so many images at most
unfoldable pub is_there : ℕ → Content → Name → ℕ → Bool
is_there zero c n b = false
is_there (suc most) c n b = elim (image_of c n) [
  | None ↦ false
  | Some i ↦ has_block c.block n i.size i.slots b || (elim i.parent [ None ↦ false | Some p ↦ is_there most c p b ])
]

-- the disk of an image by its blocks
abbrev pub disk_blocks : Content → Name → DiskBlocks
disk_blocks c n = record { block = c.block; there = is_there chain_limit c n; sectors = sectors_read c n }

-- these are the bytes that the disk of a UUID is exported as, at a moment that is told in seconds since the year 2000
pub record ExportOf (c : Content) (uuid : List ℕ) (now : ℕ) (bytes : List ℕ) : Type 0 where
  pub volume : Name
  pub stands : standing_volume c.table uuid ≡ Some volume
  pub bytes_are : bytes ≡ concat (exported (disk_blocks c volume) uuid now)
