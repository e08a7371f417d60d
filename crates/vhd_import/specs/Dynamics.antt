-- The front of a dynamic file: its header, and its table as far as the file has it.
use Rattle.std.specs.Prelude.{◌≡◌, ◌⊎◌, ℕ, ◌+◌, ◌*◌, ◌<◌, ◌≤◌, min, true, List, [], ◌++◌, length, Option}
use Rattle.sm_base.specs.Numbers.{div_up}
use Rattle.sm_disk.specs.Streams.{Takes}
use Rattle.sm_run.specs.Runs.{IsSpent}
use Rattle.vhd_stream.specs.Files.{File, FileLayout, table_end}
use Rattle.vhd_import.specs.declared.dynamic.Front.{Front}
use Rattle.vhd_import.specs.declared.heads.FileNumbers.{FileNumbers}
use Rattle.vhd_import.specs.declared.tables.Entry.{Entry}
use Rattle.vhd_import.specs.declared.tables.TableRead.{TableRead}
use Rattle.vhd_import.specs.Beginnings.{layout_by}
use Rattle.vhd_import.specs.Blocks.{IsBeforeBlocks, IsKnown}
use Rattle.vhd_import.specs.Entries.{IsPartRead, entries_from, table_entry}
use Rattle.vhd_import.specs.Heads.{is_dynamic, size_at}
use Rattle.vhd_import.specs.Progress.{HasRead, IsOpen}
use Rattle.vhd_import.specs.Puts.{Put}
use Rattle.vhd_import.specs.Room.{Target}
use Rattle.vhd_import.specs.Verdicts.{sector_limit}

-- one sector was read, which begins a dynamic file of a disk of so many sectors
pub record HasBegun (t : Target) (had left : Option (List ℕ)) (front : File) (puts : List Put) (size : ℕ) : Type 0 where
  pub read : HasRead t had left front puts
  pub long : length front ≡ 1
  pub dynamic : is_dynamic front ≡ true
  pub sized : size_at front ≡ size

-- the header was read behind it, which gives these numbers
pub record HasHeader (t : Target) (had left : Option (List ℕ)) (front : File) (puts : List Put) (size : ℕ) (n : FileNumbers) : Type 0 where
  pub more : File
  pub read : HasRead t had left (front ++ more) puts
  pub known : IsKnown (front ++ more) (layout_by n) size
  pub long : length (front ++ more) ≡ 3

-- a file was read up to its table
pub record IsBeforeTable (t : Target) (had left : Option (List ℕ)) (front : File) (puts : List Put) (f : FileLayout) (size : ℕ) : Type 0 where
  pub read : HasRead t had left front puts
  pub known : IsKnown front f size
  pub long : length front ≡ f.table

-- the sectors that were read of a table are all, or end at the most sectors that are read, or the file ended behind them
abbrev pub IsTableStop : Option (List ℕ) → FileLayout → ℕ → List ℕ → Type 0
IsTableStop left f count part =
    ((part ≡ []) × (count ≡ div_up f.entries 128)) ⊎ (((part ≡ []) × (f.table + count ≡ sector_limit)) ⊎ ((f.table + count < sector_limit) × (count < div_up f.entries 128) × IsSpent left))

-- Of the table of a file these sectors were read, and kept of the entries of the first blocks that stand there those that name a place.
pub record IsTablePart (had left : Option (List ℕ)) (f : FileLayout) (r : TableRead) : Type 0 where
  pub sectors : List (List ℕ)
  pub part : List ℕ
  pub read : IsPartRead had left sectors part
  pub count : length sectors ≡ r.sectors
  pub few : r.sectors ≤ div_up f.entries 128
  pub within : f.table + r.sectors ≤ sector_limit
  pub stop : IsTableStop left f r.sectors part
  pub kept_are : r.kept.items ≡ entries_from (table_entry sectors) 0 (min f.blocks (128 * r.sectors))

-- Whole sectors of a file were read that would be cut if it ended there. Either it did, or they are the most that is read.
pub record IsStopped (t : Target) (had left : Option (List ℕ)) (front : File) (puts : List Put) : Type 0 where
  pub mid : Option (List ℕ)
  pub part : List ℕ
  pub read : HasRead t had mid front puts
  pub unended : IsOpen front
  pub less : length part < 512
  pub takes : Takes mid part left
  pub stop : ((length front ≡ sector_limit) × (part ≡ [])) ⊎ ((length front < sector_limit) × IsSpent left)

-- a file was read up to the end of its table, of which these are the entries of the blocks that are there
pub record HasPlaces (t : Target) (had left : Option (List ℕ)) (front : File) (puts : List Put) (f : FileLayout) (size : ℕ) (entries : List Entry) : Type 0 where
  pub more : File
  pub before : IsBeforeBlocks t had left (front ++ more) puts f size entries

-- the same, by what is answered of it
pub record HasFront (t : Target) (had left : Option (List ℕ)) (front : File) (puts : List Put) (size : ℕ) (r : Front) : Type 0 where
  pub layout : FileLayout
  pub places : HasPlaces t had left front puts layout size r.entries.items
  pub block : layout.block ≡ r.block
  pub end : table_end layout ≡ r.end
