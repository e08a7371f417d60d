-- Small files that an import may be given, and the repository that they go into: one with blocks of 4 KiB, extents of 16 KiB and 64
-- entries in a table, of which 48 extents are free.
use Rattle.std.specs.Prelude.{ℕ, List, [], ◌∷◌, ◌++◌, codes, drop, replicate, take}
use Rattle.byteorder.specs.Endian.{big_bytes}
use Rattle.sm_disk.specs.Sectors.{zeros}
use Rattle.vhd_fields.specs.declared.footers.Footer.{Footer}
use Rattle.vhd_fields.specs.declared.headers.Header.{Header}
use Rattle.vhd_fields.specs.Footers.{footer_bytes}
use Rattle.vhd_fields.specs.Headers.{header_bytes}
use Rattle.vhd_import.specs.Room.{Target}
use Rattle.vhd_stream.specs.Exports.{export_footer, export_header}
use Rattle.vhd_stream.specs.Files.{File}
use Rattle.examples_files.specs.SmallFiles.{small_file, small_uuid}

-- the repository
abbrev pub small_target : Target
small_target = record { extent = 32; block = 8; entries = 64; free = 48 }

-- a sector of a table whose first two entries name these places, the others none
abbrev pub table_of : ℕ → ℕ → List ℕ
table_of first second = big_bytes 4 first ++ (big_bytes 4 second ++ replicate 504 255)

-- the exported file with another header and another sector of the table
abbrev pub with_table : Header → List ℕ → File
with_table header table = take 1 small_file ++ (take 512 (header_bytes header) ∷ drop 512 (header_bytes header) ∷ table ∷ drop 4 small_file)

-- the header of the exported file
abbrev pub small_header : Header
small_header = export_header 16 8

-- the exported file with a sector of zeros behind the header, and the table and the blocks one sector later
unfoldable pub moved_file : File
moved_file =
    let header : List ℕ = header_bytes (record small_header { table_offset = 2048 }) in
    take 1 small_file ++ (take 512 header ∷ drop 512 header ∷ zeros ∷ table_of 5 14 ∷ drop 4 small_file)

-- the exported file with the footer of a differencing disk
unfoldable pub differencing_file : File
differencing_file = footer_bytes (record (export_footer 128 small_uuid 0) { kind = 4 }) ∷ drop 1 small_file

-- the exported file with a header of 15 entries, one fewer than the disk has blocks
unfoldable pub short_table_file : File
short_table_file = with_table (record small_header { entries = 15 }) (table_of 4 13)

-- the exported file with a header of 130 entries, so that its table has two sectors, up to the end of the first, which is this one
unfoldable pub half_table_file : List ℕ → File
half_table_file table = take 4 (with_table (record small_header { entries = 130 }) table)

-- the exported file, its first block in the table
unfoldable pub in_table_file : File
in_table_file = with_table small_header (table_of 3 13)

-- the exported file, its second block on the last sector of the first
unfoldable pub overlapping_file : File
overlapping_file = with_table small_header (table_of 4 12)

-- a sector of one byte
abbrev pub plain_sector : List ℕ
plain_sector = replicate 512 170

-- the footer of a fixed disk of so many bytes, as another program writes it
abbrev pub fixed_footer : ℕ → Footer
fixed_footer size = record {
  data_offset = 18446744073709551615;
  stamp = 0;
  creator = codes "qem2";
  creator_version = 327683;
  host = 1466511979;
  original = size;
  current = size;
  kind = 2;
  uid = small_uuid;
}

-- two sectors of one byte, and a footer that says so many bytes
unfoldable pub fixed_file : ℕ → File
fixed_file size = plain_sector ∷ plain_sector ∷ footer_bytes (fixed_footer size) ∷ []
