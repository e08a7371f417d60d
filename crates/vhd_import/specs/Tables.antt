-- When the table of a dynamic file is wrong, whatever follows it: a block of the disk lies in front of the table's end, or two overlap.
use Rattle.std.specs.Prelude.{ℕ, ◌==◌, ◌&&◌, ◌||◌, not, nat_lt, Bool}
use Rattle.vhd_layout.specs.Readings.{some_below}
use Rattle.vhd_map.specs.Places.{blank}
use Rattle.vhd_stream.specs.Files.{File, FileLayout, block_end, entry, table_end}

-- the entry of block b names a place: it is not all ones
abbrev pub is_named : FileLayout → File → ℕ → Bool
is_named f file b = not (entry f file b == blank)

-- blocks b and c overlap: each begins in front of the other's end
abbrev pub overlap : FileLayout → File → ℕ → ℕ → Bool
overlap f file b c = nat_lt (entry f file b) (block_end f file c) && nat_lt (entry f file c) (block_end f file b)

-- block b is there, and lies in front of the end of the table or overlaps a block before it
unfoldable pub is_entry_wrong : FileLayout → File → ℕ → Bool
is_entry_wrong f file b =
    is_named f file b && (nat_lt (entry f file b) (table_end f) || some_below (λ c. is_named f file c && overlap f file b c) b)

-- some entry of a block of the disk is wrong. Entries behind them are not looked at
abbrev pub is_table_wrong : FileLayout → File → Bool
is_table_wrong f file = some_below (is_entry_wrong f file) f.blocks
