-- The map of an image: for each of its blocks, in order, the slot that keeps the block, or none. The VHD
-- specification calls the table of these the block allocation table. Here a map is a list of T entries,
-- and slots are counted from 0 (this project's profile of the format).
use Rattle.std.specs.Prelude.{◌≡◌, ℕ, ◌+◌, ◌<◌, Bool, false, ◌==◌, ◌||◌, if◌then◌else◌, List, [], ◌∷◌, length, drop, max, Option, None, Some, is_some, count_by, slice_index_or, zero, suc}
use Rattle.std.specs.List.{list_any, position_from, zip}

-- the slot of a block; a block past the last entry has none
abbrev pub slot_of : List (Option ℕ) → ℕ → Option ℕ
slot_of m block = slice_index_or m block None

-- the entry names this slot
abbrev pub names_slot : ℕ → Option ℕ → Bool
names_slot slot None = false
names_slot slot (Some k) = k == slot

-- the slot is in use: some block has it
abbrev pub is_used : List (Option ℕ) → ℕ → Bool
is_used m slot = list_any (names_slot slot) m

-- the number of slots in use
abbrev pub used_count : List (Option ℕ) → ℕ
used_count m = count_by is_some m

-- one more than the slot of an entry, else 0
abbrev pub past : Option ℕ → ℕ
past None = 0
past (Some slot) = slot + 1

-- one more than the highest slot in use, else 0
abbrev pub top_of : List (Option ℕ) → ℕ
top_of [] = 0
top_of (o ∷ m) = max (past o) (top_of m)

-- from `slot` on, the first of so many numbers that is no slot in use, else the number after them
abbrev pub free_from : List (Option ℕ) → ℕ → ℕ → ℕ
free_from m zero slot = slot
free_from m (suc k) slot = if is_used m slot then free_from m k (slot + 1) else slot

-- the least number that is no slot in use
unfoldable pub least_free_slot : List (Option ℕ) → ℕ
least_free_slot m = free_from m (length m) 0

-- the least block at or after `from` that has a slot
abbrev pub next_block : List (Option ℕ) → ℕ → Option ℕ
next_block m from = position_from is_some from (drop from m)

-- the number of blocks that have a slot in either map
abbrev pub union_size : List (Option ℕ) → List (Option ℕ) → ℕ
union_size m n = count_by (λ (a, b). is_some a || is_some b) (zip m n)

-- what is true of each map: each slot is below T, and no slot stands twice
pub record IsMap (m : List (Option ℕ)) : Type 0 where
  pub below : (block slot : ℕ) → slot_of m block ≡ Some slot → slot < length m
  pub once : (a b slot : ℕ) → slot_of m a ≡ Some slot → slot_of m b ≡ Some slot → a ≡ b
