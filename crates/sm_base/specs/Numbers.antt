-- The numbers of an image (this project's profile of the VHD format). Extent and block are in sectors, T
-- is the number of entries of a block allocation table.
use Rattle.std.specs.Prelude.{◌≤◌, ℕ, ◌+◌, ◌-◌, ◌*◌, ◌/◌, IsTrue}
use Rattle.std.specs.Int.{is_power_of_two}

-- a / b, rounded up
unfoldable pub div_up : ℕ → ℕ → ℕ
div_up a b = (a + b - 1) / b

-- the ranges of the three sizes: an extent of 16 KiB to 4 MiB, a block of 4 KiB to 2 MiB and no larger than
-- the extent, both powers of two, and 1 to 1,044,480 entries
pub record IsGeometry (extent block entries : ℕ) : Type 0 where
  pub extent_power : IsTrue (is_power_of_two extent)
  pub extent_least : 32 ≤ extent
  pub extent_most : extent ≤ 8192
  pub block_power : IsTrue (is_power_of_two block)
  pub block_least : 8 ≤ block
  pub block_most : block ≤ 4096
  pub within : block ≤ extent
  pub entries_least : 1 ≤ entries
  pub entries_most : entries ≤ 1044480

-- the sector at which the first slot begins: after the footer's copy, the header and the table
unfoldable pub first : ℕ → ℕ
first entries = 3 + div_up entries 128

-- the extents of an image with so many slots: a slot is a bitmap and a block, and the footer is last
unfoldable pub thin : ℕ → ℕ → ℕ → ℕ → ℕ
thin extent block entries slots = div_up (first entries + slots * (1 + block) + 1) extent

-- the extents of an image of which each block has a slot
unfoldable pub thick : ℕ → ℕ → ℕ → ℕ → ℕ
thick extent block entries sectors = thin extent block entries (div_up sectors block)
