-- The bitmap of a block (VHD specification, "Dynamic Disk: block bitmap"): a set bit says that the image
-- holds the sector. The bitmap's first sector is the most significant bit of its first byte.
use Rattle.std.specs.Prelude.{ℕ, ◌-◌, ◌/◌, ◌%◌, ◌==◌, Bool, List, slice_index}
use Rattle.std.specs.Int.{bit_at}

-- whether the bit of sector i of the block is set
unfoldable pub is_set : List ℕ → ℕ → Bool
is_set map i = bit_at (slice_index map (i / 8)) (7 - i % 8) == 1
