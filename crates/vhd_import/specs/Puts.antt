-- What each sector of a file puts on the disk that is made of it, as the file is read from its begin.
use Rattle.std.specs.Prelude.{ℕ, zero, suc, ◌+◌, ◌-◌, ◌*◌, ◌&&◌, nat_lt, nat_le, Bool, List, Option, None, Some, if◌then◌else◌}
use Rattle.std.specs.List.{find}
use Rattle.common_laws.specs.Lists.{given, numbers, ◌>>=◌}
use Rattle.vhd_map.specs.Bitmaps.{is_set}
use Rattle.vhd_stream.specs.Files.{File, FileLayout, entry, sector_at, table_end}
use Rattle.vhd_import.specs.Heads.{is_dynamic, layout_at, size_at}
use Rattle.vhd_import.specs.Tables.{is_named}

-- bytes that go to a sector of the disk
pub record Put : Type 0 where
  pub sector : ℕ
  pub bytes : List ℕ

-- sector k of a file is one of the data sectors of block b
abbrev pub has_sector : FileLayout → File → ℕ → ℕ → Bool
has_sector f file k b = is_named f file b && (nat_lt (entry f file b) k && nat_le k (entry f file b + f.block))

-- what sector k puts, as a data sector of block b: its bytes where its bit is set and the disk reaches so far
abbrev pub block_put : FileLayout → File → ℕ → ℕ → Option Put
block_put f file k b =
    let i : ℕ = k - entry f file b - 1 in
    given (is_set (sector_at file (entry f file b)) i && nat_lt (b * f.block + i) (size_at file)) (record { sector = b * f.block + i; bytes = sector_at file k })

-- what sector k of a dynamic file puts: a sector in front of the end of the table puts nothing, and one of no block neither
unfoldable pub dynamic_put : FileLayout → File → ℕ → Option Put
dynamic_put f file k = if nat_le (table_end f) k then find (has_sector f file k) (numbers 0 f.blocks) >>= block_put f file k else None

-- what is put once sector k of a fixed file was read: the sector before it, which is then known not to be the footer
abbrev pub fixed_put : File → ℕ → Option Put
fixed_put file zero = None
fixed_put file (suc k) = Some (record { sector = k; bytes = sector_at file k })

-- what is put once sector k of a file was read
unfoldable pub put_at : File → ℕ → Option Put
put_at file k = if is_dynamic file then layout_at file >>= (λ f. dynamic_put f file k) else fixed_put file k
