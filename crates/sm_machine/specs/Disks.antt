-- The disks of a repository, as their users see them (this project's format): each has a UUID, a label, the disk that
-- it was made of where there is one, a mark that it is for reading alone, and its sectors, each a list of 512 bytes.
-- Its size is the number of its sectors. Disks stand in order of UUID.
use Rattle.std.specs.Prelude.{ℕ, zero, suc, ◌+◌, ◌/◌, Bool, List, [], ◌∷◌, ◌++◌, length, take, drop, replicate, Option}
use Rattle.std.specs.List.{concat}
use Rattle.std.specs.Ordering.{is_lt, nat_cmp}
use Rattle.std.specs.Cmp.Lexicographic.{slice_cmp}
use Rattle.std.specs.Str.{bytes_eq}
use Rattle.common_laws.specs.Lists.{change, insert_by}

-- the bytes of a sector
abbrev pub sector_bytes : ℕ
sector_bytes = 512

-- a disk as its users see it: its label, the disk that it was made of, whether it is a snapshot, and its sectors
pub record Disk : Type 0 where
  pub uuid : List ℕ
  pub label : List ℕ
  pub origin : Option (List ℕ)
  pub read_only : Bool
  pub sectors : List (List ℕ)

-- one UUID before another, by their bytes
abbrev pub uuid_before : List ℕ → List ℕ → Bool
uuid_before u v = is_lt (slice_cmp nat_cmp u v)

-- sectors of one byte
abbrev pub filled : ℕ → ℕ → List (List ℕ)
filled count byte = replicate count (replicate sector_bytes byte)

-- the sectors of some bytes
unfoldable pub cut_sectors : ℕ → List ℕ → List (List ℕ)
cut_sectors zero bytes = []
cut_sectors (suc count) bytes = take sector_bytes bytes ∷ cut_sectors count (drop sector_bytes bytes)

abbrev pub sectors_of_bytes : List ℕ → List (List ℕ)
sectors_of_bytes bytes = cut_sectors (length bytes / sector_bytes) bytes

-- the sectors with these in place of those from one on
unfoldable pub overwritten : ℕ → List (List ℕ) → List (List ℕ) → List (List ℕ)
overwritten at new old = take at old ++ (new ++ drop (at + length new) old)

-- the bytes of so many sectors from one on
unfoldable pub bytes_at : ℕ → ℕ → List (List ℕ) → List ℕ
bytes_at at count sectors = concat (take count (drop at sectors))

-- whether this is the disk of a UUID
abbrev pub is_disk : List ℕ → Disk → Bool
is_disk u d = bytes_eq d.uuid u

-- one disk more, in its place
unfoldable pub with_disk : Disk → List Disk → List Disk
with_disk d disks = insert_by (λ a b. uuid_before a.uuid b.uuid) d disks

-- one disk changed
abbrev pub on_disk : List ℕ → (Disk → Disk) → List Disk → List Disk
on_disk u f disks = change (is_disk u) f disks
