-- A sector is 512 bytes, the unit in which devices and images are read and written (Virtual Hard Disk Image
-- Format Specification 1.0).
use Rattle.std.specs.Prelude.{◌≡◌, ℕ, ◌*◌, ◌<◌, List, length, take, drop, replicate, All}

-- 512 numbers, each of them a byte
pub record IsSector (s : List ℕ) : Type 0 where
  pub long : length s ≡ 512
  pub bytes : All (λ b. b < 256) s

-- the sector with this number in a run of bytes
unfoldable pub sector : List ℕ → ℕ → List ℕ
sector bytes i = take 512 (drop (512 * i) bytes)

-- a sector of zeros
unfoldable pub zeros : List ℕ
zeros = replicate 512 0
