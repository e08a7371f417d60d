-- The room that a file needs in a repository, as far as it was read: a slot for each block of the repository into which other bytes
-- than zeros came.
use Rattle.std.specs.Prelude.{ℕ, zero, suc, ◌-◌, ◌/◌, ◌==◌, not, nat_lt, Bool, List, count_by, Option}
use Rattle.std.specs.List.{filter_map, list_any}
use Rattle.std.specs.Str.{bytes_eq}
use Rattle.common_laws.specs.Lists.{given, numbers, ◌>>=◌}
use Rattle.sm_base.specs.Numbers.{div_up, thin}
use Rattle.sm_disk.specs.Sectors.{zeros}
use Rattle.sm_base.specs.declared.refusals.Refusal.{Refusal}
use Rattle.sm_base.specs.declared.refusals.Refusal.TheVariants.{NoSpace}
use Rattle.vhd_stream.specs.Files.{File}
use Rattle.vhd_import.specs.Puts.{Put, put_at}

-- the repository that a file goes into: extent and block in sectors, the entries of a table, and the extents that are free before
pub record Target : Type 0 where
  pub extent : ℕ
  pub block : ℕ
  pub entries : ℕ
  pub free : ℕ

-- the block of the repository that a put fills, where its bytes are not all zeros
abbrev pub block_of : Target → Put → Option ℕ
block_of t p = given (not (bytes_eq p.bytes zeros)) (p.sector / t.block)

-- the block that sector k of a file fills
unfoldable pub filled_at : Target → File → ℕ → Option ℕ
filled_at t file k = put_at file k >>= block_of t

-- how many blocks of the repository stand in a list, each of them counted once
unfoldable pub distinct_blocks : Target → List ℕ → ℕ
distinct_blocks t blocks = count_by (λ b. list_any (λ c. c == b) blocks) (numbers 0 t.entries)

-- how many blocks have a slot once so many sectors were read
unfoldable pub used : Target → File → ℕ → ℕ
used t file count = distinct_blocks t (filter_map (filled_at t file) (numbers 0 count))

-- the extents of an image with so many slots
abbrev pub extents_for : Target → ℕ → ℕ
extents_for t slots = thin t.extent t.block t.entries slots

-- more extents are needed than are free
abbrev pub lacks : ℕ → ℕ → Option Refusal
lacks need free = given (nat_lt free need) (NoSpace need free)

-- Sector k asks for more extents than are free: those of an image without slots once sector 0 was read, and those by which the slots
-- that it fills make the image longer.
unfoldable pub lacks_space : Target → File → ℕ → Option Refusal
lacks_space t file zero = lacks (extents_for t 0) t.free
lacks_space t file (suc k) =
    let old : ℕ = extents_for t (used t file (suc k)) in
    lacks (extents_for t (used t file (suc (suc k))) - old) (t.free - old)

-- a disk of so many sectors has more blocks than a table of the repository has entries
abbrev pub is_too_large : Target → ℕ → Bool
is_too_large t size = nat_lt t.entries (div_up size t.block)
