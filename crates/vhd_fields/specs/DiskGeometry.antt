-- The cylinders, heads and sectors per track of a size (Microsoft Virtual Hard Disk Image Format Specification
-- 1.0, appendix 'CHS Calculation'). All divisions round down.
use Rattle.std.specs.Prelude.{ℕ, ◌+◌, ◌*◌, ◌/◌, Bool, List, ◌∷◌, [], ◌++◌, min, max, nat_lt, nat_le, ◌&&◌, if◌then◌else◌}
use Rattle.byteorder.specs.Endian.{big_bytes}

-- cylinders in two bytes, heads, sectors per track: for so many tracks under so many heads
abbrev pub chs : ℕ → ℕ → ℕ → List ℕ
chs tracks heads sectors = big_bytes 2 (tracks / heads) ++ heads ∷ sectors ∷ []

-- the heads for so many tracks of 17 sectors: one for each 1,024 tracks, and at least four
abbrev pub heads_for : ℕ → ℕ
heads_for tracks = max ((tracks + 1023) / 1024) 4

-- so many heads reach all tracks with fewer than 1,024 cylinders
abbrev pub reach : ℕ → ℕ → Bool
reach heads tracks = nat_lt tracks (heads * 1024)

-- Of a size in sectors that is not too large for the format: 255 sectors per track from 65535 * 16 * 63 sectors
-- on. Below, the first of 17, 31 and 63 sectors per track with which at most 16 heads reach all tracks.
abbrev pub geometry_within : ℕ → List ℕ
geometry_within sectors =
    if nat_le (65535 * 16 * 63) sectors then chs (sectors / 255) 16 255
    else if reach (heads_for (sectors / 17)) (sectors / 17) && nat_le (heads_for (sectors / 17)) 16
    then chs (sectors / 17) (heads_for (sectors / 17)) 17
    else if reach 16 (sectors / 31) then chs (sectors / 31) 16 31
    else chs (sectors / 63) 16 63

-- of any size in sectors: a larger one than 65535 * 16 * 255 has the geometry of that
unfoldable pub geometry : ℕ → List ℕ
geometry sectors = geometry_within (min sectors (65535 * 16 * 255))
