-- The entries of a table that name a place, as they are kept once the table was read.
use Rattle.std.specs.Prelude.{◌≡◌, ◌⊎◌, ℕ, ◌*◌, ◌/◌, ◌%◌, ◌<◌, ◌==◌, not, min, List, [], ◌++◌, length, All, Option}
use Rattle.std.specs.List.{concat, filter_map}
use Rattle.common_laws.specs.Lists.{given, numbers}
use Rattle.sm_base.specs.Numbers.{div_up}
use Rattle.sm_disk.specs.Streams.{Takes}
use Rattle.sm_run.specs.Runs.{IsSpent}
use Rattle.vhd_map.specs.Places.{blank, word}
use Rattle.vhd_stream.specs.Files.{sector_at}
use Rattle.vhd_import.specs.declared.tables.Entry.{Entry}
use Rattle.vhd_import.specs.declared.tables.TableRead.{TableRead}

-- what is kept of the entry of block b, where it names a place
abbrev pub entry_for : ℕ → ℕ → Option Entry
entry_for place b = given (not (place == blank)) (record { place = place; block = b })

-- what is kept of so many entries from one on, each told by its block, in order of the blocks
unfoldable pub entries_from : (ℕ → ℕ) → ℕ → ℕ → List Entry
entries_from place first count = filter_map (λ b. entry_for (place b) b) (numbers first count)

-- entry b of a table of these sectors
unfoldable pub table_entry : List (List ℕ) → ℕ → ℕ
table_entry sectors b = word (sector_at sectors (b / 128)) (b % 128)

-- so many whole sectors were read, and fewer bytes than one more has
pub record IsPartRead (had left : Option (List ℕ)) (sectors : List (List ℕ)) (part : List ℕ) : Type 0 where
  pub whole : All (λ s. length s ≡ 512) sectors
  pub less : length part < 512
  pub takes : Takes had (concat sectors ++ part) left

-- Of a table of so many entries these sectors were read, all of them or as many as the file has whole, and kept of the entries of the first
-- blocks that stand there those that name a place. Where sectors are wanting, nothing is left.
pub record IsTableRead (had left : Option (List ℕ)) (entries blocks : ℕ) (t : TableRead) : Type 0 where
  pub sectors : List (List ℕ)
  pub part : List ℕ
  pub read : IsPartRead had left sectors part
  pub count : length sectors ≡ t.sectors
  pub all : (t.sectors ≡ div_up entries 128 × (part ≡ [])) ⊎ ((t.sectors < div_up entries 128) × IsSpent left)
  pub kept_are : t.kept.items ≡ entries_from (table_entry sectors) 0 (min blocks (128 * t.sectors))

-- some sectors were read, and fewer bytes than one more has
abbrev pub IsSomeRead : Option (List ℕ) → Option (List ℕ) → Type 0
IsSomeRead had left = (sectors : List (List ℕ)) × (part : List ℕ) × IsPartRead had left sectors part
