-- Tables that fail one field each, beside the memory of the repositories at rest: each is a small change of theirs.
use Rattle.std.specs.Prelude.{ℕ, ◌/◌, ◌%◌, ◌++◌, Bool, true, false, List, [], ◌∷◌, map, replicate}
use Rattle.sm_base.specs.declared.names.Name.{Name}
use Rattle.sm_base.specs.declared.names.Name.TheVariants.{Raw, Vhd, Cbt, Coalesce}
use Rattle.common_laws.specs.Lists.{numbers}
use Rattle.vg_meta.specs.Tables.{VolumeTable, Row}
use Rattle.examples_standing.specs.SmallContents.{record_row}
use Rattle.examples_moments.specs.Worked.{first, second, base, image_row, table_with, uuid_of}
use Rattle.examples_ready.specs.Repositories.{plain_table}

-- the snapshot's image lies in the extents of the disk's
abbrev pub shared_table : VolumeTable
shared_table = table_with (image_row false (Vhd first) 21 ∷ image_row false (Vhd second) 21 ∷ image_row true (Vhd base) 16 ∷ [])

-- the two disks, with so many extents for the records, the VHD disk hidden or not, and these volumes behind
abbrev pub plain_with : ℕ → Bool → List Row → VolumeTable
plain_with records hidden behind = record {
  sequence = 4;
  volumes = record { name = Raw second; hidden = false; fresh = false; extents = 21 ∷ [] }
      ∷ record_row (numbers 0 records)
      ∷ image_row hidden (Vhd first) 16
      ∷ behind;
}

-- an extent too few for the records
abbrev pub short_table : VolumeTable
short_table = plain_with 15 false []

-- the VHD disk is hidden, and memory shows it
abbrev pub hidden_table : VolumeTable
hidden_table = plain_with 16 true []

-- the two disks, and a new volume for the log of the VHD disk
abbrev pub log_table : VolumeTable
log_table = record plain_table { volumes = record { name = Cbt first; hidden = false; fresh = true; extents = 22 ∷ [] } ∷ plain_table.volumes }

-- a new volume of five extents
abbrev pub new_volume : Name → Row
new_volume n = record { name = n; hidden = false; fresh = true; extents = numbers 22 5 }

-- one for a VHD image with the UUID of the raw disk
abbrev pub twin_table : VolumeTable
twin_table = plain_with 16 false (new_volume (Vhd second) ∷ [])

-- one with a UUID of its own
abbrev pub third : List ℕ
third = uuid_of 3

abbrev pub begun_table : VolumeTable
begun_table = plain_with 16 false (new_volume (Vhd third) ∷ [])

-- the copy without its entry
abbrev pub entryless_table : VolumeTable
entryless_table = table_with (image_row false (Vhd first) 21 ∷ image_row true (Vhd second) 26 ∷ image_row true (Vhd base) 16 ∷ [])

-- the base of the copy has one extent
abbrev pub tight_table : VolumeTable
tight_table = table_with (image_row false (Vhd first) 21
    ∷ image_row true (Vhd second) 26
    ∷ record { name = Vhd base; hidden = true; fresh = false; extents = numbers 16 1 }
    ∷ record { name = Coalesce second base; hidden = false; fresh = false; extents = [] }
    ∷ [])

-- the two disks, and so many new volumes of one extent each, whose UUIDs end with the numbers from 256 on
abbrev pub numbered : ℕ → List ℕ
numbered k = replicate 14 0 ++ (k / 256 ∷ k % 256 ∷ [])

abbrev pub numbered_row : ℕ → Row
numbered_row k = record { name = Vhd (numbered k); hidden = false; fresh = true; extents = k ∷ [] }

abbrev pub crowd : ℕ → List Row
crowd n = map numbered_row (numbers 256 n)

abbrev pub crowded_table : VolumeTable
crowded_table = plain_with 16 false (crowd 499)
