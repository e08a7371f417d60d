-- A dynamic file of which a front was read: what is known of it once its header was read, and once its table was.
use Rattle.std.specs.Prelude.{◌≡◌, ℕ, ◌+◌, ◌≤◌, false, true, List, ◌++◌, length, IsPermutation, Option, Some}
use Rattle.vhd_stream.specs.Files.{File, FileLayout, IsThere, block_end, entry, table_end}
use Rattle.vhd_import.specs.declared.tables.Entry.{Entry}
use Rattle.vhd_import.specs.Apart.{stand_apart}
use Rattle.vhd_import.specs.Entries.{entries_from}
use Rattle.vhd_import.specs.Heads.{is_dynamic, layout_at, size_at}
use Rattle.vhd_import.specs.Progress.{HasRead}
use Rattle.vhd_import.specs.Puts.{Put}
use Rattle.vhd_import.specs.Room.{Target}
use Rattle.vhd_import.specs.Tables.{is_table_wrong}

-- a dynamic file has these numbers, and its disk so many sectors
pub record IsKnown (file : File) (f : FileLayout) (size : ℕ) : Type 0 where
  pub dynamic : is_dynamic file ≡ true
  pub layout : layout_at file ≡ Some f
  pub sized : size_at file ≡ size

-- and its table is whole in it, and right
pub record IsTabled (file : File) (f : FileLayout) (size : ℕ) : Type 0 where
  pub known : IsKnown file f size
  pub behind : table_end f ≤ length file
  pub right : is_table_wrong f file ≡ false

-- A front of such a file was read up to the place of block b, which is there, and what it puts is on the disk.
pub record IsBeforeBlock (t : Target) (had left : Option (List ℕ)) (front : File) (puts : List Put) (f : FileLayout) (size place b : ℕ) : Type 0 where
  pub read : HasRead t had left front puts
  pub tabled : IsTabled front f size
  pub there : IsThere f front b
  pub at : entry f front b ≡ place
  pub long : length front ≡ place

-- a front was read, and some sectors more, so many in all, and what they put is on the disk
pub record GoesOn (t : Target) (had left : Option (List ℕ)) (front : File) (holds : List Put → Type 0) (count : ℕ) : Type 0 where
  pub more : File
  pub puts : List Put
  pub read : HasRead t had left (front ++ more) puts
  pub held : holds puts
  pub long : length (front ++ more) ≡ count

-- A front of such a file was read up to the end of its table, what it puts is on the disk, and these are the entries of its blocks, one
-- behind the other.
pub record IsBeforeBlocks (t : Target) (had left : Option (List ℕ)) (front : File) (puts : List Put) (f : FileLayout) (size : ℕ) (entries : List Entry) : Type 0 where
  pub read : HasRead t had left front puts
  pub tabled : IsTabled front f size
  pub same : IsPermutation (entries_from (entry f front) 0 f.blocks) entries
  pub apart : stand_apart (table_end f) (1 + f.block) entries ≡ true
  pub long : length front ≡ table_end f

-- a front was read, and more, up to a sector behind each block that is there and behind the table
pub record IsPastBlocks (t : Target) (had left : Option (List ℕ)) (front : File) (holds : List Put → Type 0) (f : FileLayout) (last : ℕ) : Type 0 where
  pub goes : GoesOn t had left front holds last
  pub past : (b : ℕ) → IsThere f front b → block_end f front b ≤ last
  pub end : table_end f ≤ last
