-- The first sector of a log, 512 bytes (this project's format). Numbers are big-endian. Offsets in bytes:
--   0    8   the letters LVHDCBTL
--   8    8   the tag, by which other logs name this one, 0 for a disk that is no snapshot
--  16    8   the tag of the snapshot since which the log has bits, 0 for none
--  24    4   the number of pieces of the disk
--  28  480   zeros
-- 508    4   the sum of the bytes 0 to 507
use Rattle.std.specs.Prelude.{ℕ, ◌<◌, ◌^◌, Bool, ◌&&◌, ◌==◌, if◌then◌else◌, List, ◌++◌, sum, codes, Option, Some, None}
use Rattle.std.specs.Int.{w32, w64, to_be_bytes, from_be_bytes}
use Rattle.std.specs.Str.{bytes_eq}
use Rattle.sm_record.specs.Records.{zeros, is_zeros, at}
use Rattle.sm_log.specs.declared.heads.Head.{Head}

-- ---- what is written

-- each number of a head fits its bytes
pub record IsHead (h : Head) : Type 0 where
  pub tag : h.tag < 2 ^ 64
  pub since : h.since < 2 ^ 64
  pub pieces : h.pieces < 2 ^ 32

-- LVHDCBTL
abbrev pub cookie : List ℕ
cookie = codes "LVHDCBTL"

-- the bytes 0 to 507 of a head's sector
unfoldable pub head_fields : Head → List ℕ
head_fields h = cookie ++ (to_be_bytes w64 h.tag ++ (to_be_bytes w64 h.since ++ (to_be_bytes w32 h.pieces ++ zeros 480)))

-- the sector of a head: its fields, then their sum
unfoldable pub head_sector : Head → List ℕ
head_sector h = head_fields h ++ to_be_bytes w32 (sum (head_fields h))

-- ---- what a sector reads as

-- the cookie stands in front, zeros behind the numbers, and the sum at the end
unfoldable pub is_sealed : List ℕ → Bool
is_sealed sector = bytes_eq cookie (at 0 8 sector) && (is_zeros (at 28 480 sector) && (from_be_bytes w32 (at 508 4 sector) == sum (at 0 508 sector)))

-- the numbers that stand in the sector
abbrev pub numbers_in : List ℕ → Head
numbers_in sector = record { tag = from_be_bytes w64 (at 8 8 sector); since = from_be_bytes w64 (at 16 8 sector); pieces = from_be_bytes w32 (at 24 4 sector) }

-- the head that stands in the sector, where one does
unfoldable pub head_in : List ℕ → Option Head
head_in sector = if is_sealed sector then Some (numbers_in sector) else None
