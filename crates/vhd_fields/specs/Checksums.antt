-- The checksum of a footer or header: the one's complement of the sum of all bytes but those of the checksum
-- itself, as a 32-bit number (Microsoft Virtual Hard Disk Image Format Specification 1.0, 'Hard Disk Footer
-- Format', Checksum, and 'Dynamic Disk Header Format', Checksum).
use Rattle.std.specs.Prelude.{ℕ, ◌+◌, ◌-◌, ◌^◌, List, ◌++◌, drop, take, sum}
use Rattle.byteorder.specs.Endian.{big_bytes}

-- every bit of a 32-bit number turned
abbrev pub ones_complement : ℕ → ℕ
ones_complement n = 2 ^ 32 - 1 - n

-- the checksum whose four bytes stand at an offset
unfoldable pub checksum : ℕ → List ℕ → ℕ
checksum at bytes = ones_complement (sum (take at bytes) + sum (drop (at + 4) bytes))

-- the bytes in front of the checksum, the checksum, and the bytes behind it
unfoldable pub sealed : List ℕ → List ℕ → List ℕ
sealed front back = front ++ (big_bytes 4 (ones_complement (sum front + sum back)) ++ back)
