-- The first disk of 64 KiB of a repository with extents of 16 KiB, blocks of 4 KiB and 64 entries: its image
-- lies in five extents, 160 sectors, and has no slot yet. The bytes are written out as the format lists them, and
-- the two checksums were added up by hand: the sums of the other bytes are 2,012 and 3,000. Beside it stand
-- images that each break one rule.
use Rattle.std.specs.Prelude.{ℕ, ◌-◌, ◌==◌, List, [], ◌∷◌, ◌++◌, codes, length, take, replicate, if◌then◌else◌}
use Rattle.vhd_fields.specs.Footers.{footer_fields, footer_bytes}
use Rattle.vhd_fields.specs.Headers.{header_fields, header_bytes}
use Rattle.vhd_layout.specs.Layouts.{Sectors}

-- the footer, 512 bytes
unfoldable pub footer_sector : List ℕ
footer_sector =
    codes "conectix"  -- cookie
    ++ (0 ∷ 0 ∷ 0 ∷ 2 ∷ [])  -- features
    ++ (0 ∷ 1 ∷ 0 ∷ 0 ∷ [])  -- file format version
    ++ (0 ∷ 0 ∷ 0 ∷ 0 ∷ 0 ∷ 0 ∷ 2 ∷ 0 ∷ [])  -- data offset, 512
    ++ (0 ∷ 0 ∷ 0 ∷ 0 ∷ [])  -- time stamp
    ++ codes "lvhd"  -- creator application
    ++ (0 ∷ 1 ∷ 0 ∷ 0 ∷ [])  -- creator version
    ++ (0 ∷ 0 ∷ 0 ∷ 0 ∷ [])  -- creator host
    ++ (0 ∷ 0 ∷ 0 ∷ 0 ∷ 0 ∷ 1 ∷ 0 ∷ 0 ∷ [])  -- original size, 65,536
    ++ (0 ∷ 0 ∷ 0 ∷ 0 ∷ 0 ∷ 1 ∷ 0 ∷ 0 ∷ [])  -- current size
    ++ (0 ∷ 1 ∷ 4 ∷ 17 ∷ [])  -- geometry
    ++ (0 ∷ 0 ∷ 0 ∷ 3 ∷ [])  -- disk type, dynamic
    ++ (255 ∷ 255 ∷ 248 ∷ 35 ∷ [])  -- checksum, fffff823 hex
    ++ (108 ∷ 118 ∷ 104 ∷ 100 ∷ 0 ∷ 0 ∷ 128 ∷ 0 ∷ [])  -- unique id
    ++ (128 ∷ 0 ∷ 0 ∷ 0 ∷ 0 ∷ 0 ∷ 0 ∷ 2 ∷ [])
    ++ replicate 428 0  -- saved state, and reserved bytes

-- the header's first sector; its second has zeros alone
unfoldable pub header_sector : List ℕ
header_sector =
    codes "cxsparse"  -- cookie
    ++ (255 ∷ 255 ∷ 255 ∷ 255 ∷ 255 ∷ 255 ∷ 255 ∷ 255 ∷ [])  -- data offset
    ++ (0 ∷ 0 ∷ 0 ∷ 0 ∷ 0 ∷ 0 ∷ 6 ∷ 0 ∷ [])  -- table offset, 1,536
    ++ (0 ∷ 1 ∷ 0 ∷ 0 ∷ [])  -- header version
    ++ (0 ∷ 0 ∷ 0 ∷ 64 ∷ [])  -- max table entries
    ++ (0 ∷ 0 ∷ 16 ∷ 0 ∷ [])  -- block size, 4,096
    ++ (255 ∷ 255 ∷ 244 ∷ 71 ∷ [])  -- checksum, fffff447 hex
    ++ replicate 472 0  -- parent, and reserved bytes

-- a sector of zeros
abbrev pub zeros : List ℕ
zeros = replicate 512 0

-- the sector of a table that begins with these bytes; all other entries are blank
abbrev pub table_of : List ℕ → List ℕ
table_of bytes = bytes ++ replicate (512 - length bytes) 255

-- a volume of 160 sectors: the footer's copy, the header's first sector, the table, the slots, and the footer
abbrev pub volume : List ℕ → List ℕ → List ℕ → Sectors → List ℕ → Sectors
volume copy header table inside last = λ s.
    if s == 0 then copy
    else if s == 1 then header
    else if s == 3 then table
    else if s == 159 then last
    else inside s

-- zeros everywhere
abbrev pub empty : Sectors
empty = λ s. zeros

-- the image as it was made
abbrev pub fresh_image : Sectors
fresh_image = volume footer_sector header_sector (table_of []) empty footer_sector

-- Two sectors of the disk, 7 and 8, were written with the byte 171: block 0 has slot 0, which begins at sector 4,
-- and in its bitmap the bit of its last sector is set; block 1 has slot 1, which begins at sector 13, and the bit
-- of its first sector is set.
abbrev pub written_slots : Sectors
written_slots = λ s.
    if s == 4 then 1 ∷ replicate 511 0
    else if s == 12 then replicate 512 171
    else if s == 13 then 128 ∷ replicate 511 0
    else if s == 14 then replicate 512 171
    else zeros

-- the entries of blocks 0 and 1
abbrev pub written_table : List ℕ
written_table = table_of (0 ∷ 0 ∷ 0 ∷ 4 ∷ 0 ∷ 0 ∷ 0 ∷ 13 ∷ [])

-- the image after this write
abbrev pub written_image : Sectors
written_image = volume footer_sector header_sector written_table written_slots footer_sector

-- ---- other footers, headers and tables

-- the footer of a disk of another type
unfoldable pub footer_of_kind : ℕ → List ℕ
footer_of_kind kind = let footer = footer_fields footer_sector in footer_bytes (record footer { kind = kind })

-- the footer of a disk of another size in bytes
unfoldable pub footer_of_size : ℕ → List ℕ
footer_of_size size = let footer = footer_fields footer_sector in footer_bytes (record footer { current = size })

-- the image with another footer, in both of its places
abbrev pub with_footer : List ℕ → Sectors
with_footer footer = volume footer header_sector (table_of []) empty footer

-- the first sector of a header with another table offset, number of entries and size of a block in bytes
unfoldable pub header_of : ℕ → ℕ → ℕ → List ℕ
header_of offset entries block =
    let header = header_fields (header_sector ++ zeros) in
    take 512 (header_bytes (record header { table_offset = offset; entries = entries; block = block }))

-- the image with another header
abbrev pub with_header : List ℕ → Sectors
with_header header = volume footer_sector header (table_of []) empty footer_sector

-- the image with a table that begins with these bytes
abbrev pub with_table : List ℕ → Sectors
with_table bytes = volume footer_sector header_sector (table_of bytes) empty footer_sector
