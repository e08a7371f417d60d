-- Worked images, byte for byte: disks of 64 KiB in five extents of 16 KiB each, which are 160 sectors, with blocks of
-- 4 KiB and 64 entries. They hold nothing, or sector 0 alone. Between other footers they are disks of another size.
use Rattle.std.specs.Prelude.{ℕ, ◌==◌, List, [], ◌∷◌, take, replicate, codes, Some, if◌then◌else◌}
use Rattle.sm_base.specs.declared.names.Name.{Name}
use Rattle.vhd_fields.specs.declared.footers.Footer.{Footer}
use Rattle.vhd_fields.specs.declared.headers.Header.{Header}
use Rattle.vhd_fields.specs.Footers.{footer_bytes}
use Rattle.vhd_fields.specs.Headers.{header_bytes}
use Rattle.examples_vhd.specs.SmallImages.{zeros, table_of, empty, volume, footer_sector, header_sector}
use Rattle.vhd_layout.specs.Layouts.{Sectors}

-- the footer of a disk of a type, dynamic (3) or differencing (4), which was made with one size in bytes and has another
abbrev pub footer_of : ℕ → ℕ → ℕ → Footer
footer_of kind original current = record {
  stamp = 0;
  creator = codes "lvhd";
  creator_version = 65536;
  host = 0;
  original = original;
  current = current;
  kind = kind;
  data_offset = 512;
  uid = replicate 16 7;
}

-- the footer of a differencing disk of 64 KiB
abbrev pub child_footer : Footer
child_footer = footer_of 4 65536 65536

-- the footers of disks of 32 KiB, a dynamic one and a differencing one; and of the latter when it has grown to 64 KiB
abbrev pub small_top_footer : Footer
small_top_footer = footer_of 3 32768 32768

abbrev pub small_child_footer : Footer
small_child_footer = footer_of 4 32768 32768

abbrev pub grown_child_footer : Footer
grown_child_footer = footer_of 4 32768 65536

-- a header that names this parent
abbrev pub child_header : Name → Header
child_header parent = record {
  table_offset = 1536;
  entries = 64;
  block = 4096;
  parent_uid = replicate 16 0;
  parent_stamp = 0;
  parent = Some parent;
}

-- an image over a parent, with this table and these slots
unfoldable pub child_image : Name → List ℕ → Sectors → Sectors
child_image parent table slots =
    volume (footer_bytes child_footer) (take 512 (header_bytes (child_header parent))) table slots (footer_bytes child_footer)

-- the table of an image whose block 0 has slot 0, which begins at sector 4; in the slot's bitmap the bit of sector 0 is
-- set, and its sector is filled with this byte
abbrev pub one_entry : List ℕ
one_entry = table_of (0 ∷ 0 ∷ 0 ∷ 4 ∷ [])

abbrev pub one_slot : ℕ → Sectors
one_slot byte = λ s. if s == 4 then 128 ∷ replicate 511 0 else if s == 5 then replicate 512 byte else zeros

-- a sector of one byte
abbrev pub sector_of : ℕ → List ℕ
sector_of byte = replicate 512 byte

-- an image without a parent that holds sector 0; one over a parent that holds it; and one over a parent that holds nothing
abbrev pub top_image : ℕ → Sectors
top_image byte = volume footer_sector header_sector one_entry (one_slot byte) footer_sector

abbrev pub filled_child : Name → ℕ → Sectors
filled_child parent byte = child_image parent one_entry (one_slot byte)

abbrev pub empty_child : Name → Sectors
empty_child parent = child_image parent (table_of []) empty

-- an image with another footer, in both of its places
unfoldable pub between_footers : Footer → Sectors → Sectors
between_footers footer image = λ s. if s == 0 then footer_bytes footer else if s == 159 then footer_bytes footer else image s
