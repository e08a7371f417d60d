-- The bytes of a write: given ones, or one byte over and over.
use Rattle.std.specs.Prelude.{◌≡◌, ℕ, ◌*◌, ◌<◌, ◌≤◌, List, length, take, drop, replicate}
use Rattle.vhd_write.specs.declared.payloads.Source.{Source}
use Rattle.vhd_write.specs.declared.payloads.Source.TheVariants.{Given, Repeated}

-- the bytes that a write takes from where they come from
abbrev pub bytes_of : Source → List ℕ
bytes_of (Given bytes) = bytes.now
bytes_of (Repeated piece byte sectors) = replicate (512 * sectors) byte

-- where a byte is repeated there is a piece of at least one sector, each byte of it this one
abbrev pub HasPiece : Source → Type 0
HasPiece (Given bytes) = Unit {0}
HasPiece (Repeated piece byte sectors) = (512 ≤ length piece.now) × (piece.now ≡ replicate (length piece.now) byte)

-- so many sectors of some bytes, behind so many of them
abbrev pub piece_of : ℕ → ℕ → List ℕ → List ℕ
piece_of skip count bytes = take (512 * count) (drop (512 * skip) bytes)

-- these are sectors of the bytes, behind so many of them: at least one and at most so many
pub record IsRun (skip most : ℕ) (bytes run : List ℕ) : Type 0 where
  pub count : ℕ
  pub some : 0 < count
  pub within : count ≤ most
  pub long : length run ≡ 512 * count
  pub is : run ≡ piece_of skip count bytes
