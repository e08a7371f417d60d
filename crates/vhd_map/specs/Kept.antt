-- How a map is kept: its entries as numbers, all ones for none; one bit a slot for the slots in use; the
-- number in use, the top, and the least word of bits that has a free one.
use Rattle.std.specs.Prelude.{◌≡◌, ◌≢◌, ℕ, ◌+◌, ◌-◌, ◌/◌, ◌<◌, ◌^◌, ◌==◌, if◌then◌else◌, List, map, length, Option, None, Some, slice_index}
use Rattle.vhd_map.specs.Slots.{is_used, used_count, top_of, IsMap}
use Rattle.vhd_map.specs.Words.{is_marked}

-- the slot that a number stands for
abbrev pub slot_or_none : ℕ → Option ℕ
slot_or_none e = if e == 4294967295 then None else Some e

-- the map that the numbers stand for
abbrev pub kept_map : List ℕ → List (Option ℕ)
kept_map entries = map slot_or_none entries

-- what is kept beside the entries agrees with them
pub record AgreesWithEntries (entries words : List ℕ) (count top least : ℕ) : Type 0 where
  pub fits : length entries < 2 ^ 32
  pub good : IsMap (kept_map entries)
  pub room : length words ≡ length entries / 64 + 1
  pub marked : (slot : ℕ) → is_marked words slot ≡ is_used (kept_map entries) slot
  pub counted : count ≡ used_count (kept_map entries)
  pub topped : top ≡ top_of (kept_map entries)
  pub within : least < length words
  pub least_room : slice_index words least ≢ 2 ^ 64 - 1
  pub full : (w : ℕ) → w < least → slice_index words w ≡ 2 ^ 64 - 1
