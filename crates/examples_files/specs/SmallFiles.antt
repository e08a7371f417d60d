-- The file that a disk of 64 KiB is exported as, in a repository with blocks of 4 KiB. Its sectors 7 and 8 were filled with one byte, so its
-- first two blocks are there, and the other 14 are not.
use Rattle.std.specs.Prelude.{ℕ, nat_lt, List, [], ◌∷◌, ◌++◌, take, drop, replicate}
use Rattle.sm_disk.specs.Sectors.{zeros}
use Rattle.vhd_stream.specs.Exports.{DiskBlocks, exported}
use Rattle.vhd_stream.specs.Files.{File, sector_at}

-- a sector of one byte
abbrev pub filled_sector : List ℕ
filled_sector = replicate 512 171

-- the disk by its blocks
unfoldable pub small_disk : DiskBlocks
small_disk = record {
  block = 8;
  there = λ b. nat_lt b 2;
  sectors = replicate 7 zeros ++ (filled_sector ∷ filled_sector ∷ replicate 119 zeros);
}

-- 11111111-1111-4111-8111-111111111111
abbrev pub small_uuid : List ℕ
small_uuid = 17 ∷ 17 ∷ 17 ∷ 17 ∷ 17 ∷ 17 ∷ 65 ∷ 17 ∷ 129 ∷ 17 ∷ 17 ∷ 17 ∷ 17 ∷ 17 ∷ 17 ∷ 17 ∷ []

-- the file, made at the beginning of the year 2000
unfoldable pub small_file : File
small_file = exported small_disk small_uuid 0

-- so many bytes of a sector of the file, from one on
abbrev pub bytes_in : ℕ → ℕ → ℕ → List ℕ
bytes_in k at count = take count (drop at (sector_at small_file k))
