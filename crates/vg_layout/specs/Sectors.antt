-- The label and the table header, field by field (this project's format). Numbers are big-endian, of 4 bytes. A
-- sum is the sum of bytes as a 32-bit number.
--   Label: 0 the letters LVHDREPO; 8 the version; 12 the repository's UUID; 28 extent, 32 block, both in
--   sectors; 36 the entries of each block allocation table; 40 the number of extents; 44 the layout, which is 0 in
--   version 1; 48 zeros; 508 the sum of bytes 0 to 507.
--   Table header: 0 the letters LVHDTABL; 8 the slot; 12 the length of the text in bytes; 16 the sum of the
--   text; 20 zeros; 508 the sum of bytes 0 to 507.
use Rattle.std.specs.Prelude.{ℕ, ◌&&◌, nat_le, Bool, List, ◌++◌, take, drop, replicate, sum, codes}
use Rattle.std.specs.Int.{w32, to_be_bytes, from_be_bytes, is_power_of_two}

-- what a label says beside its version: the numbers and the UUID that a repository is formatted with, the number of its extents,
-- and its layout
pub record Plate : Type 0 where
  pub extent : ℕ
  pub block : ℕ
  pub entries : ℕ
  pub count : ℕ
  pub layout : ℕ
  pub identity : List ℕ

-- where the text of the table stands
pub record Pointer : Type 0 where
  pub slot : ℕ
  pub size : ℕ
  pub total : ℕ

-- a number in four bytes
abbrev pub number : ℕ → List ℕ
number n = to_be_bytes w32 n

-- the number in the four bytes at an offset
abbrev pub number_at : ℕ → List ℕ → ℕ
number_at offset sector = from_be_bytes w32 (take 4 (drop offset sector))

-- the letters LVHDREPO and LVHDTABL
abbrev pub label_cookie : List ℕ
label_cookie = codes "LVHDREPO"

abbrev pub header_cookie : List ℕ
header_cookie = codes "LVHDTABL"

-- a sector's first 508 bytes, and their sum behind them
unfoldable pub sealed : List ℕ → List ℕ
sealed front = front ++ number (sum front)

-- bytes 0 to 507 of a label of a version
unfoldable pub label_front : ℕ → Plate → List ℕ
label_front version p =
    label_cookie
    ++ (number version
    ++ (p.identity
    ++ (number p.extent
    ++ (number p.block
    ++ (number p.entries
    ++ (number p.count
    ++ (number p.layout
    ++ replicate 460 0)))))))

-- the sector of a label of a version: its fields and their sum
unfoldable pub label_sector : ℕ → Plate → List ℕ
label_sector version p = sealed (label_front version p)

-- bytes 0 to 507 of a table header
unfoldable pub header_front : Pointer → List ℕ
header_front h =
    header_cookie
    ++ (number h.slot
    ++ (number h.size
    ++ (number h.total
    ++ replicate 488 0)))

-- the sector of a header: its fields and their sum
unfoldable pub header_sector : Pointer → List ℕ
header_sector h = sealed (header_front h)

-- the version that stands in a label
abbrev pub version_in : List ℕ → ℕ
version_in sector = number_at 8 sector

-- the fields that stand at a label's offsets
unfoldable pub plate_in : List ℕ → Plate
plate_in sector = record {
  extent = number_at 28 sector;
  block = number_at 32 sector;
  entries = number_at 36 sector;
  count = number_at 40 sector;
  layout = number_at 44 sector;
  identity = take 16 (drop 12 sector);
}

-- the fields of a header, as a sector has them
unfoldable pub pointer_in : List ℕ → Pointer
pointer_in sector = record { slot = number_at 8 sector; size = number_at 12 sector; total = number_at 16 sector }

-- the three sizes are in their ranges
unfoldable pub is_geometry : ℕ → ℕ → ℕ → Bool
is_geometry extent block entries =
    is_power_of_two extent && (nat_le 32 extent && (nat_le extent 8192
    && (is_power_of_two block && (nat_le 8 block && (nat_le block 4096
    && (nat_le block extent && (nat_le 1 entries && nat_le entries 1044480)))))))
