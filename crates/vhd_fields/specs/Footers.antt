-- The footer of an image, 512 bytes (Microsoft Virtual Hard Disk Image Format Specification 1.0, 'Hard Disk
-- Footer Format'), with this project's profile of it: the footer of a dynamic or differencing image, or of a
-- fixed one.
use Rattle.std.specs.Prelude.{◌≡◌, ℕ, ◌/◌, ◌%◌, ◌<◌, ◌^◌, Bool, not, ◌&&◌, ◌||◌, ◌==◌, List, [], ◌∷◌, length, codes, replicate, IsTrue, Option, None, Result}
use Rattle.std.specs.List.{concat}
use Rattle.std.specs.Str.{bytes_eq}
use Rattle.byteorder.specs.Endian.{big_bytes}
use Rattle.vhd_fields.specs.declared.faults.FieldFault.{FieldFault}
use Rattle.vhd_fields.specs.declared.faults.FieldFault.TheVariants.{Cookie, Checksum, Version, Field}
use Rattle.vhd_fields.specs.declared.footers.Footer.{Footer}
use Rattle.vhd_fields.specs.Checksums.{checksum, sealed}
use Rattle.vhd_fields.specs.DiskGeometry.{geometry}
use Rattle.vhd_fields.specs.Fields.{bytes_at, number_at, version, first_fault, unless_fault}

-- fixed, dynamic or differencing
abbrev pub is_disk_type : ℕ → Bool
is_disk_type kind = (kind == 2) || (kind == 3) || (kind == 4)

-- a dynamic or differencing image has its header at byte 512
abbrev pub is_data_offset : ℕ → ℕ → Bool
is_data_offset kind offset = not ((kind == 3) || (kind == 4)) || (offset == 512)

-- whole sectors, and some
abbrev pub is_size : ℕ → Bool
is_size size = (size % 512 == 0) && not (size == 0)

-- the tests of a footer in their order, each with the fault of a footer that fails it
unfoldable pub footer_tests : List ℕ → List (Bool × FieldFault)
footer_tests bytes =
    (bytes_eq (bytes_at 0 8 bytes) (codes "conectix"), Cookie)
    ∷ (number_at 64 4 bytes == checksum 64 bytes, Checksum)
    ∷ (number_at 12 4 bytes == version, Version)
    ∷ (is_data_offset (number_at 60 4 bytes) (number_at 16 8 bytes), Field 16)
    ∷ (is_size (number_at 48 8 bytes), Field 48)
    ∷ (is_disk_type (number_at 60 4 bytes), Field 60)
    ∷ []

-- the fields at their offsets
unfoldable pub footer_fields : List ℕ → Footer
footer_fields bytes = record {
  data_offset = number_at 16 8 bytes;
  stamp = number_at 24 4 bytes;
  creator = bytes_at 28 4 bytes;
  creator_version = number_at 32 4 bytes;
  host = number_at 36 4 bytes;
  original = number_at 40 8 bytes;
  current = number_at 48 8 bytes;
  kind = number_at 60 4 bytes;
  uid = bytes_at 68 16 bytes;
}

-- the first test that the bytes fail
abbrev pub footer_fault : List ℕ → Option FieldFault
footer_fault bytes = first_fault (footer_tests bytes)

-- the bytes pass every test, and have these fields
pub record FooterOf (bytes : List ℕ) (footer : Footer) : Type 0 where
  pub passes : footer_fault bytes ≡ None
  pub fields : footer ≡ footer_fields bytes

-- what reading the bytes answers
abbrev pub footer_read : List ℕ → Result Footer FieldFault
footer_read bytes = unless_fault (footer_fault bytes) (footer_fields bytes)

-- the fields in front of the checksum, in 64 bytes
unfoldable pub footer_front : Footer → List (List ℕ)
footer_front footer =
    codes "conectix"  -- 0: cookie
    ∷ big_bytes 4 2  -- 8: features, of which one bit is reserved and always set
    ∷ big_bytes 4 version  -- 12: file format version
    ∷ big_bytes 8 footer.data_offset  -- 16
    ∷ big_bytes 4 footer.stamp  -- 24
    ∷ footer.creator  -- 28
    ∷ big_bytes 4 footer.creator_version  -- 32
    ∷ big_bytes 4 footer.host  -- 36
    ∷ big_bytes 8 footer.original  -- 40
    ∷ big_bytes 8 footer.current  -- 48
    ∷ geometry (footer.current / 512)  -- 56
    ∷ big_bytes 4 footer.kind  -- 60
    ∷ []

-- the fields behind it, in 444 bytes
unfoldable pub footer_back : Footer → List (List ℕ)
footer_back footer =
    footer.uid  -- 68
    ∷ replicate 428 0  -- 84: saved state, and reserved bytes
    ∷ []

-- a footer as it is written
unfoldable pub footer_bytes : Footer → List ℕ
footer_bytes footer = sealed (concat (footer_front footer)) (concat (footer_back footer))

-- fields that pass the tests
pub record IsFooter (footer : Footer) : Type 0 where
  pub data_offset : IsTrue (is_data_offset footer.kind footer.data_offset)
  pub size : IsTrue (is_size footer.current)
  pub kind : IsTrue (is_disk_type footer.kind)

-- fields that have room in their bytes
pub record FooterFits (footer : Footer) : Type 0 where
  pub stamp : footer.stamp < 2 ^ 32
  pub creator : length footer.creator ≡ 4
  pub creator_version : footer.creator_version < 2 ^ 32
  pub host : footer.host < 2 ^ 32
  pub original : footer.original < 2 ^ 64
  pub current : footer.current < 2 ^ 64
  pub kind : footer.kind < 2 ^ 32
  pub data_offset : footer.data_offset < 2 ^ 64
  pub uid : length footer.uid ≡ 16

-- what is kept of a footer that is read and written again: time stamp, creator, creator version, host and
-- original size, and the unique id
pub record KeepsFields (old new : List ℕ) : Type 0 where
  pub stamp_to_original : bytes_at 24 24 new ≡ bytes_at 24 24 old
  pub uid : bytes_at 68 16 new ≡ bytes_at 68 16 old
