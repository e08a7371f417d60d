-- The sectors of a write, and those of them that one block has.
use Rattle.std.specs.Prelude.{◌≡◌, ℕ, ◌+◌, ◌-◌, ◌*◌, ◌/◌, ◌<◌, ◌≤◌, ◌⊎◌, List, Option, Some}
use Rattle.sm_disk.specs.Held.{IsIn}
use Rattle.vhd_map.specs.Slots.{slot_of, IsMap}
use Rattle.vhd_volumes.specs.Writes.{with_blocks, HasGrown}

-- so many sectors from this one on, in blocks of so many sectors, lie in the blocks from `first` to one before `end`
pub record IsSpan (block sector count first end : ℕ) : Type 0 where
  pub block_least : 8 ≤ block
  pub block_most : block ≤ 4096
  pub some : 0 < count
  pub first_is : first ≡ sector / block
  pub end_is : end ≡ (sector + count - 1) / block + 1
  pub end_most : end ≤ 1044480

-- the sectors of this block among those of a write of so many bytes: `count` of them from the block's sector `first` on,
-- with `skip` sectors of the bytes in front
pub record IsPart (size block at len first count skip : ℕ) : Type 0 where
  pub some : 0 < count
  pub fits : first + count ≤ size
  pub skipped : at + skip ≡ block * size + first
  pub inside : 512 * (skip + count) ≤ len
  pub all : (i : ℕ) → i < size → IsIn at len (block * size + i) → (first ≤ i) × (i < first + count)

-- n is the map m once the blocks from `first` to one before `end` have slots
pub record Given (first end : ℕ) (m n : List (Option ℕ)) : Type 0 where
  pub is : n ≡ with_blocks first (end - first) m
  pub grown : HasGrown m n
  pub good : IsMap n
  pub has : (b : ℕ) → first ≤ b → b < end → (k : ℕ) × (slot_of n b ≡ Some k)
  pub others : (b : ℕ) → (b < first) ⊎ (end ≤ b) → slot_of n b ≡ slot_of m b
