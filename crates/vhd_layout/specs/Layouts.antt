-- Where the parts of an image stand in its volume (Microsoft Virtual Hard Disk Image Format Specification 1.0,
-- 'Dynamic Hard Disk Image', with this project's slots). Places are counted in sectors of 512 bytes: sector 0 is
-- a copy of the footer, sectors 1 and 2 are the header, from sector 3 on stands the block allocation table,
-- behind it the slots, and the footer is the last sector. A volume is a function from a place to the 512 bytes
-- there.
use Rattle.std.specs.Prelude.{◌≡◌, ℕ, ◌+◌, ◌-◌, ◌*◌, ◌/◌, ◌%◌, ◌<◌, ◌≤◌, List, Option, Some}
use Rattle.sm_base.specs.Numbers.{first, div_up}
use Rattle.vhd_map.specs.Places.{spot, word, code as code_at}

-- the sectors of a volume
abbrev pub Sectors : Type 0
Sectors = ℕ → List ℕ

-- the numbers of an image: the sector at which slot 0 begins, the sectors of a block, the entries of the table,
-- the blocks of the disk, and the sectors of the image's part of its volume
pub record Layout : Type 0 where
  pub first : ℕ
  pub block : ℕ
  pub entries : ℕ
  pub blocks : ℕ
  pub sectors : ℕ

-- in a repository with so many sectors a block and so many entries a table, an image of so many blocks in so
-- many sectors
abbrev pub layout_of : ℕ → ℕ → ℕ → ℕ → Layout
layout_of block entries blocks sectors = record {
  first = first entries;
  block = block;
  entries = entries;
  blocks = blocks;
  sectors = sectors;
}

-- the sector of part j of slot k: the bitmap for 0, and sector i of the slot's block for 1 + i
abbrev pub place : Layout → ℕ → ℕ → ℕ
place l k j = spot l.first l.block k j

-- the number of slots: whole ones between the table and the footer
unfoldable pub slot_count : Layout → ℕ
slot_count l = (l.sectors - 1 - l.first) / (1 + l.block)

-- the number of entries up to the end of the table's last sector
unfoldable pub entries_in_sectors : Layout → ℕ
entries_in_sectors l = 128 * div_up l.entries 128

-- the table's entry of block b, as it stands in the volume
abbrev pub entry : Sectors → ℕ → ℕ
entry v b = word (v (3 + b / 128)) (b % 128)

-- the entry of a block with this slot, or with none
abbrev pub code : Layout → Option ℕ → ℕ
code l o = code_at l.first l.block o

-- the map of an image: the slot of each block, or none
abbrev pub Slots : Type 0
Slots = ℕ → Option ℕ

-- blocks of the disk alone have slots; a slot is below the number of entries and below that of slots; no slot
-- stands twice
pub record IsSlots (l : Layout) (m : Slots) : Type 0 where
  pub sized : (b k : ℕ) → m b ≡ Some k → b < l.blocks
  pub fits : (b k : ℕ) → m b ≡ Some k → (k < l.entries) × (k < slot_count l)
  pub once : (b c k : ℕ) → m b ≡ Some k → m c ≡ Some k → b ≡ c

-- the numbers of an image in a repository: a block of 4 KiB to 2 MiB and 1 to 1,044,480 entries
pub record IsLayout (l : Layout) : Type 0 where
  pub begins : l.first ≡ first l.entries
  pub block_least : 8 ≤ l.block
  pub block_most : l.block ≤ 4096
  pub entries_least : 1 ≤ l.entries
  pub entries_most : l.entries ≤ 1044480
