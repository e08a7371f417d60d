-- A VHD file that stands by itself, fixed or dynamic, and the disk that it holds (Microsoft Virtual Hard Disk Image Format
-- Specification 1.0, 'Fixed Hard Disk Image' and 'Dynamic Hard Disk Image', with this project's choices of what is read). A
-- file is whole sectors of 512 bytes, counted from 0.
use Rattle.std.specs.Prelude.{◌≡◌, ◌≢◌, ℕ, ◌+◌, ◌-◌, ◌*◌, ◌/◌, ◌%◌, ◌<◌, ◌≤◌, ◌⊎◌, ◌==◌, List, [], ◌++◌, length, All, None, Ok, if◌then◌else◌, slice_index_or}
use Rattle.std.specs.List.{concat}
use Rattle.sm_base.specs.Numbers.{div_up}
use Rattle.sm_disk.specs.Sectors.{zeros}
use Rattle.vhd_fields.specs.declared.footers.Footer.{Footer}
use Rattle.vhd_fields.specs.declared.headers.Header.{Header}
use Rattle.vhd_fields.specs.Footers.{footer_read}
use Rattle.vhd_fields.specs.Headers.{header_read}
use Rattle.vhd_map.specs.Bitmaps.{is_set}
use Rattle.vhd_map.specs.Places.{blank, word}

-- a file by its sectors
abbrev pub File : Type 0
File = List (List ℕ)

-- the sector at a place; past the end it has no bytes
abbrev pub sector_at : File → ℕ → List ℕ
sector_at file k = slice_index_or file k []

-- bytes are the sectors of a file, one after the other
pub record IsCutInto (bytes : List ℕ) (file : File) : Type 0 where
  pub joined : bytes ≡ concat file
  pub whole : All (λ s. length s ≡ 512) file

-- the numbers of a dynamic file: the first sector of its table, the entries of the table, the sectors of a block, and the blocks of the disk
pub record FileLayout : Type 0 where
  pub table : ℕ
  pub entries : ℕ
  pub block : ℕ
  pub blocks : ℕ

-- the numbers of a dynamic file by its footer and its header
abbrev pub layout_of : Footer → Header → FileLayout
layout_of footer header = record {
  table = header.table_offset / 512;
  entries = header.entries;
  block = header.block / 512;
  blocks = div_up (footer.current / 512) (header.block / 512);
}

-- the first sector behind the table
abbrev pub table_end : FileLayout → ℕ
table_end f = f.table + div_up f.entries 128

-- the entry of block b in the table of a dynamic file
unfoldable pub entry : FileLayout → File → ℕ → ℕ
entry f file b = word (sector_at file (f.table + b / 128)) (b % 128)

-- the first sector behind block b, which is one sector of bits and the block's data
abbrev pub block_end : FileLayout → File → ℕ → ℕ
block_end f file b = entry f file b + (1 + f.block)

-- block b of the disk is there: its entry is not all ones
pub record IsThere (f : FileLayout) (file : File) (b : ℕ) : Type 0 where
  pub below : b < f.blocks
  pub named : entry f file b ≢ blank

-- each block that is there lies behind the whole table, is whole in the file, and overlaps no other
pub record IsTable (f : FileLayout) (file : File) : Type 0 where
  pub behind : (b : ℕ) → IsThere f file b → table_end f ≤ entry f file b
  pub whole : (b : ℕ) → IsThere f file b → block_end f file b ≤ length file
  pub apart : (b c : ℕ) → IsThere f file b → IsThere f file c → b ≢ c → (block_end f file b ≤ entry f file c) ⊎ (block_end f file c ≤ entry f file b)

-- sector i of the block that an entry names, where its bit is set, else zeros
unfoldable pub sector_in : File → ℕ → ℕ → List ℕ
sector_in file e i =
    if e == blank then zeros
    else if is_set (sector_at file e) i then sector_at file (e + (1 + i))
    else zeros

-- sector s of the disk that a dynamic file holds
abbrev pub file_sector : FileLayout → File → ℕ → List ℕ
file_sector f file s = sector_in file (entry f file (s / f.block)) (s % f.block)

-- a disk has so many sectors, each as a function says
pub record AreSectors (size : ℕ) (sector : ℕ → List ℕ) (sectors : List (List ℕ)) : Type 0 where
  pub count : length sectors ≡ size
  pub each : (s : ℕ) → s < size → sector_at sectors s ≡ sector s

-- a dynamic file: a footer, a header without a parent, a table and blocks. What else stands in it means nothing, the second footer at its end
-- included
pub record IsDynamic (file : File) (sectors : List (List ℕ)) : Type 0 where
  pub footer : Footer
  pub header : Header
  pub footer_reads : footer_read (sector_at file 0) ≡ Ok footer
  pub kind : footer.kind ≡ 3
  pub header_reads : header_read (sector_at file 1 ++ sector_at file 2) ≡ Ok header
  pub alone : header.parent ≡ None
  pub fits : (layout_of footer header).blocks ≤ header.entries
  pub table_whole : table_end (layout_of footer header) ≤ length file
  pub table : IsTable (layout_of footer header) file
  pub disk : AreSectors (footer.current / 512) (file_sector (layout_of footer header) file) sectors

-- the first sector of a file is a footer of a dynamic or a differencing disk
pub record BeginsAsDynamic (file : File) : Type 0 where
  pub footer : Footer
  pub reads : footer_read (sector_at file 0) ≡ Ok footer
  pub kind : (footer.kind ≡ 3) ⊎ (footer.kind ≡ 4)

-- a fixed file: the sectors of the disk, and behind them the footer, which says how many bytes they have. One whose first sector is itself a
-- footer of a dynamic or a differencing disk is none
pub record IsFixed (file : File) (sectors : List (List ℕ)) : Type 0 where
  pub plain : ¬ BeginsAsDynamic file
  pub footer : Footer
  pub footer_reads : footer_read (sector_at file (length file - 1)) ≡ Ok footer
  pub kind : footer.kind ≡ 2
  pub size : footer.current ≡ 512 * (length file - 1)
  pub disk : AreSectors (length file - 1) (sector_at file) sectors

-- bytes are a VHD file, dynamic or fixed, that holds a disk with these sectors
pub record FileOf (bytes : List ℕ) (sectors : List (List ℕ)) : Type 0 where
  pub file : File
  pub cut : IsCutInto bytes file
  pub is : IsDynamic file sectors ⊎ IsFixed file sectors
