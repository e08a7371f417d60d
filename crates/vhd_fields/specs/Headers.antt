-- The header of a dynamic or differencing image, 1,024 bytes (Microsoft Virtual Hard Disk Image Format
-- Specification 1.0, 'Dynamic Disk Header Format'), with this project's limits on its numbers.
use Rattle.std.specs.Prelude.{◌≡◌, ℕ, ◌%◌, ◌-◌, ◌<◌, ◌^◌, Bool, nat_le, ◌&&◌, ◌==◌, List, [], ◌∷◌, length, codes, replicate, IsTrue, Option, None, Result, is_some, unwrap_or}
use Rattle.std.specs.Int.{is_power_of_two}
use Rattle.std.specs.List.{concat}
use Rattle.std.specs.Str.{bytes_eq}
use Rattle.byteorder.specs.Endian.{big_bytes}
use Rattle.vhd_fields.specs.declared.faults.FieldFault.{FieldFault}
use Rattle.vhd_fields.specs.declared.faults.FieldFault.TheVariants.{Cookie, Checksum, Version, Field}
use Rattle.vhd_fields.specs.declared.headers.Header.{Header}
use Rattle.vhd_fields.specs.Checksums.{checksum, sealed}
use Rattle.vhd_fields.specs.Fields.{bytes_at, number_at, version, first_fault, unless_fault}
use Rattle.vhd_fields.specs.ParentNames.{IsParent, parent_bytes, parent_read}

-- the table begins at a whole sector, behind the footer's copy and the header
abbrev pub is_table_offset : ℕ → Bool
is_table_offset offset = (offset % 512 == 0) && nat_le 1536 offset

-- a number of entries, from 1 to 1,044,480
abbrev pub is_entries : ℕ → Bool
is_entries entries = nat_le 1 entries && nat_le entries 1044480

-- a block of 4 KiB to 2 MiB, in bytes, a power of two
abbrev pub is_block : ℕ → Bool
is_block block = is_power_of_two block && nat_le 4096 block && nat_le block 2097152

-- the tests of a header in their order, each with the fault of a header that fails it
unfoldable pub header_tests : List ℕ → List (Bool × FieldFault)
header_tests bytes =
    (bytes_eq (bytes_at 0 8 bytes) (codes "cxsparse"), Cookie)
    ∷ (number_at 36 4 bytes == checksum 36 bytes, Checksum)
    ∷ (number_at 24 4 bytes == version, Version)
    ∷ (is_table_offset (number_at 16 8 bytes), Field 16)
    ∷ (is_entries (number_at 28 4 bytes), Field 28)
    ∷ (is_block (number_at 32 4 bytes), Field 32)
    ∷ (is_some (parent_read (bytes_at 64 512 bytes)), Field 64)
    ∷ []

-- the fields at their offsets
unfoldable pub header_fields : List ℕ → Header
header_fields bytes = record {
  table_offset = number_at 16 8 bytes;
  entries = number_at 28 4 bytes;
  block = number_at 32 4 bytes;
  parent_uid = bytes_at 40 16 bytes;
  parent_stamp = number_at 56 4 bytes;
  parent = unwrap_or (parent_read (bytes_at 64 512 bytes)) None;
}

-- the first test that the bytes fail
abbrev pub header_fault : List ℕ → Option FieldFault
header_fault bytes = first_fault (header_tests bytes)

-- the bytes pass every test, and have these fields
pub record HeaderOf (bytes : List ℕ) (header : Header) : Type 0 where
  pub passes : header_fault bytes ≡ None
  pub fields : header ≡ header_fields bytes

-- what reading the bytes answers
abbrev pub header_read : List ℕ → Result Header FieldFault
header_read bytes = unless_fault (header_fault bytes) (header_fields bytes)

-- the fields in front of the checksum, in 36 bytes
unfoldable pub header_front : Header → List (List ℕ)
header_front header =
    codes "cxsparse"  -- 0: cookie
    ∷ big_bytes 8 (2 ^ 64 - 1)  -- 8: data offset, not used
    ∷ big_bytes 8 header.table_offset  -- 16
    ∷ big_bytes 4 version  -- 24: header version
    ∷ big_bytes 4 header.entries  -- 28: max table entries
    ∷ big_bytes 4 header.block  -- 32: block size
    ∷ []

-- the fields behind it, in 984 bytes
unfoldable pub header_back : Header → List (List ℕ)
header_back header =
    header.parent_uid  -- 40
    ∷ big_bytes 4 header.parent_stamp  -- 56
    ∷ big_bytes 4 0  -- 60: reserved
    ∷ parent_bytes header.parent  -- 64: parent name
    ∷ replicate 448 0  -- 576: eight parent locators, and reserved bytes
    ∷ []

-- a header as it is written
unfoldable pub header_bytes : Header → List ℕ
header_bytes header = sealed (concat (header_front header)) (concat (header_back header))

-- fields that pass the tests
pub record IsHeader (header : Header) : Type 0 where
  pub table_offset : IsTrue (is_table_offset header.table_offset)
  pub entries : IsTrue (is_entries header.entries)
  pub block : IsTrue (is_block header.block)
  pub parent : IsParent header.parent

-- fields that have room in their bytes
pub record HeaderFits (header : Header) : Type 0 where
  pub table_offset : header.table_offset < 2 ^ 64
  pub entries : header.entries < 2 ^ 32
  pub block : header.block < 2 ^ 32
  pub parent_uid : length header.parent_uid ≡ 16
  pub parent_stamp : header.parent_stamp < 2 ^ 32
