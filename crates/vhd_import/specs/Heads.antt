-- What the first sectors of a file say: whether it is dynamic, and the numbers of a dynamic file (Microsoft Virtual Hard Disk Image
-- Format Specification 1.0, 'Hard Disk Footer Format' and 'Dynamic Disk Header Format').
use Rattle.std.specs.Prelude.{ℕ, ◌/◌, ◌==◌, Bool, false, ◌++◌, nat_le, nat_lt, Option, None, Some, is_some, if◌then◌else◌}
use Rattle.std.specs.Option.{option_map_or}
use Rattle.std.specs.Result.{result_ok}
use Rattle.common_laws.specs.Lists.{given, ◌>>=◌}
use Rattle.vhd_fields.specs.declared.footers.Footer.{Footer}
use Rattle.vhd_fields.specs.declared.headers.Header.{Header}
use Rattle.vhd_fields.specs.Footers.{footer_read}
use Rattle.vhd_fields.specs.Headers.{header_read}
use Rattle.vhd_stream.specs.Files.{File, FileLayout, layout_of, sector_at}

-- the footer that a sector of a file is, where it reads as one
unfoldable pub footer_at : File → ℕ → Option Footer
footer_at file k = result_ok (footer_read (sector_at file k))

-- a footer of this type: 2 for a fixed disk, 3 for a dynamic and 4 for a differencing one
abbrev pub is_kind : ℕ → Option Footer → Bool
is_kind kind footer = option_map_or (λ f. f.kind == kind) footer false

-- a file begins with the footer of a dynamic disk
abbrev pub is_dynamic : File → Bool
is_dynamic file = is_kind 3 (footer_at file 0)

-- the header of a dynamic file, where sectors 1 and 2 read as one, with or without a parent
abbrev pub any_header : File → Option Header
any_header file = result_ok (header_read (sector_at file 1 ++ sector_at file 2))

-- a header, where it names no parent
abbrev pub without_parent : Header → Option Header
without_parent h = if is_some h.parent then None else Some h

-- the header of a dynamic file, where sectors 1 and 2 read as one without a parent
unfoldable pub header_at : File → Option Header
header_at file = any_header file >>= without_parent

-- the sectors of the disk that a dynamic file holds, by its footer
unfoldable pub size_at : File → ℕ
size_at file = option_map_or (λ f. f.current / 512) (footer_at file 0) 0

-- the disk of a footer has more blocks than the table of a header has entries
abbrev pub exceeds : Footer → Header → Bool
exceeds f h = nat_lt h.entries (layout_of f h).blocks

-- a dynamic file has a header, with or without a parent, and its table has too few entries
unfoldable pub lacks_entries : File → Bool
lacks_entries file = option_map_or (λ f. option_map_or (exceeds f) (any_header file) false) (footer_at file 0) false

-- the numbers of a dynamic file by its footer and its header, where the table has an entry for each block of the disk
unfoldable pub layout_at : File → Option FileLayout
layout_at file =
    footer_at file 0 >>= (λ f. header_at file >>= (λ h. given (nat_le (layout_of f h).blocks h.entries) (layout_of f h)))
