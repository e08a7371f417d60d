-- What an import answers to the bytes that a source gives: the sectors of a disk, or why the file is not taken. Each denial comes at the
-- first sector at which it is decided; of several that one sector decides the first counts, in the order of this page. A header is read
-- whole before it is judged; an entry of the table is wrong by what stands in front of it in the table.
use Rattle.std.specs.Prelude.{◌≡◌, ◌⊎◌, ℕ, ◌+◌, ◌-◌, ◌*◌, ◌/◌, ◌%◌, ◌<◌, ◌==◌, ◌&&◌, ◌||◌, not, nat_lt, nat_le, Bool, true, false, List, [], ◌∷◌, ◌++◌, length, map, replicate, codes, Option, None, Some, is_some, if◌then◌else◌, min}
use Rattle.std.specs.List.{range_with_len}
use Rattle.std.specs.Option.{option_map_or}
use Rattle.common_laws.specs.Lists.{first_some, given, numbers}
use Rattle.sm_base.specs.Numbers.{div_up}
use Rattle.sm_disk.specs.Sectors.{zeros}
use Rattle.sm_machine.specs.Disks.{Disk, cut_sectors}
use Rattle.vhd_layout.specs.Readings.{each_below}
use Rattle.vhd_stream.specs.Files.{File, FileLayout, block_end, file_sector, sector_at, table_end}
use Rattle.sm_base.specs.declared.refusals.Refusal.{Refusal}
use Rattle.sm_base.specs.declared.refusals.Refusal.TheVariants.{BadFile, BadSize, Cut, Differencing}
use Rattle.vhd_import.specs.Heads.{footer_at, is_dynamic, is_kind, lacks_entries, layout_at, size_at}
use Rattle.vhd_import.specs.Room.{Target, is_too_large, lacks_space}
use Rattle.vhd_import.specs.Tables.{is_table_wrong, is_named}

-- ---- what a sector decides

-- the numbers of a file whose table was read up to sector k: of the blocks whose entries stand there
abbrev pub read_up_to : ℕ → FileLayout → FileLayout
read_up_to k f = record f { blocks = min f.blocks (128 * (k + 1 - f.table)) }

-- an entry is wrong that stands in the table up to sector k
abbrev pub wrong_table : File → ℕ → FileLayout → Option Refusal
wrong_table file k f = given (is_table_wrong (read_up_to k f) file) (BadFile f.table)

-- What sector k of a dynamic file may decide: that its table has too few entries, that it has no header without a parent, that the table is
-- wrong, that the disk is too large, and that extents are wanting.
unfoldable pub dynamic_denials : Target → File → ℕ → List (Option Refusal)
dynamic_denials t file k =
    given ((k == 2) && lacks_entries file) (BadFile 0)
    ∷ given ((k == 2) && not (is_some (layout_at file))) (BadFile 1)
    ∷ option_map_or (wrong_table file k) (layout_at file) None
    ∷ given ((k == 0) && is_too_large t (size_at file)) BadSize
    ∷ lacks_space t file k
    ∷ []

-- What sector k of any other file may decide: that it is a differencing one, that the disk is too large, of which k sectors are then known,
-- and that extents are wanting.
unfoldable pub fixed_denials : Target → File → ℕ → List (Option Refusal)
fixed_denials t file k =
    given ((k == 0) && is_kind 4 (footer_at file 0)) Differencing
    ∷ given (is_too_large t k) BadSize
    ∷ lacks_space t file k
    ∷ []

-- why a file is not taken, where sector k decides it
abbrev pub denial_at : Target → File → ℕ → Option Refusal
denial_at t file k = first_some (if is_dynamic file then dynamic_denials t file k else fixed_denials t file k)

-- ---- what the end decides

-- the table of a dynamic file is whole in it, and so is each block that is there
unfoldable pub is_whole : File → FileLayout → Bool
is_whole file f =
    nat_le (table_end f) (length file) && each_below (λ b. not (is_named f file b) || nat_le (block_end f file b) (length file)) f.blocks

-- the last sector of a file is the footer of a fixed disk of the sectors in front of it
unfoldable pub is_footed : File → Bool
is_footed file = option_map_or (λ f. (f.kind == 2) && (f.current == 512 * (length file - 1))) (footer_at file (length file - 1)) false

-- Why a file is not taken, where its end decides it: it ends inside a sector or has none, a dynamic one before its table or a block was
-- whole; a fixed one has no footer at its end.
unfoldable pub denial_at_end : File → Bool → Option Refusal
denial_at_end file inside =
    if inside || (length file == 0) then Some (Cut (length file))
    else if is_dynamic file then given (not (option_map_or (is_whole file) (layout_at file) false)) (Cut (length file))
    else given (not (is_footed file)) (BadFile (length file - 1))

-- ---- the answer

-- what an import answers to a file: a disk with these sectors, a denial, or that it is longer than is read
pub data Verdict : Type 0 where
  Made : List (List ℕ) → Verdict
  Denied : Refusal → Verdict
  Long : Verdict

-- the sectors of the disk that a file holds
abbrev pub sectors_of : File → List (List ℕ)
sectors_of file =
    if is_dynamic file then option_map_or (λ f. map (file_sector f file) (range_with_len 0 (size_at file))) (layout_at file) []
    else map (sector_at file) (range_with_len 0 (length file - 1))

-- what the end of a file makes of it, where nothing was decided before
abbrev pub ends_as : File → Bool → Verdict
ends_as file inside = elim (denial_at_end file inside) [ Some d ↦ Denied d | None ↦ Made (sectors_of file) ]

-- What is answered to a file of whole sectors, behind which the source ended inside a sector or not, or a byte came past the most that is
-- read.
unfoldable pub verdict : Target → File → Bool → Bool → Verdict
verdict t file inside past =
    elim (first_some (map (denial_at t file) (numbers 0 (length file)))) [
      | Some d ↦ Denied d
      | None ↦ if past then Long else ends_as file inside
    ]

-- the most sectors that are read of a file: 2^42 bytes
abbrev pub sector_limit : ℕ
sector_limit = 8589934592

-- the whole sectors that are read of some bytes
abbrev pub file_of : List ℕ → File
file_of bytes = cut_sectors (min (length bytes / 512) sector_limit) bytes

-- what an import answers to bytes. The bytes alone decide, and not the pieces in which a source gives them
abbrev pub verdict_of : Target → List ℕ → Verdict
verdict_of t bytes = verdict t (file_of bytes) (nat_lt 0 (length bytes % 512)) (nat_lt (512 * sector_limit) (length bytes))

-- the first sector refuses a file: it is not whole, or the file begins as a differencing one, or as a dynamic one of a disk that is too large
abbrev pub IsRefusedFirst : Target → List ℕ → Type 0
IsRefusedFirst t bytes =
    (length bytes < 512) ⊎ ((is_kind 4 (footer_at (file_of bytes) 0) ≡ true) ⊎ ((is_dynamic (file_of bytes) ≡ true) × (is_too_large t (size_at (file_of bytes)) ≡ true)))

-- The disk that is made of a file with these sectors, in a repository with so many sectors a block: of no other disk and not for reading
-- alone, with zeros behind the sectors up to the whole block.
unfoldable pub imported : ℕ → List ℕ → List (List ℕ) → Disk
imported block uuid sectors = record {
  uuid = uuid;
  label = codes "import";
  origin = None;
  read_only = false;
  sectors = sectors ++ replicate (div_up (length sectors) block * block - length sectors) zeros;
}
