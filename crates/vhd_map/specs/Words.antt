-- How a map keeps its slots in use: one bit a slot, in words of 64 bits, the lowest bit first.
use Rattle.std.specs.Prelude.{ℕ, ◌/◌, ◌%◌, ◌==◌, Bool, List, slice_index}
use Rattle.std.specs.Int.{bit_at}

-- whether the bit of the slot is set
unfoldable pub is_marked : List ℕ → ℕ → Bool
is_marked words slot = bit_at (slice_index words (slot / 64)) (slot % 64) == 1
