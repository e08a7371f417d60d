-- Bits as bytes, the first bit in the most significant place, and bytes as text in base64 (RFC 4648, section 4): three bytes are four
-- symbols of six bits, and `=` stands for a symbol that is missing at the end.
use Rattle.std.specs.Prelude.{ℕ, zero, suc, ◌+◌, ◌*◌, ◌/◌, ◌%◌, Bool, true, false, List, [], ◌∷◌, drop, take, length, codes, slice_index}
use Rattle.sm_base.specs.Numbers.{div_up}
use Rattle.sm_log.specs.Logs.{bit, sector_bits}

-- ---- bits as bytes

-- a bit as a number
abbrev pub one_if : Bool → ℕ
one_if true = 1
one_if false = 0

-- the byte of the first eight bits, each 0 where there is none
abbrev pub byte_of : List Bool → ℕ
byte_of bits = 128 * one_if (bit bits 0) + 64 * one_if (bit bits 1) + 32 * one_if (bit bits 2) + 16 * one_if (bit bits 3)
    + 8 * one_if (bit bits 4) + 4 * one_if (bit bits 5) + 2 * one_if (bit bits 6) + one_if (bit bits 7)

-- bits as so many bytes, with zeros behind the last bit
unfoldable pub packed : ℕ → List Bool → List ℕ
packed zero bits = []
packed (suc n) bits = byte_of bits ∷ packed n (drop 8 bits)

-- one sector of bits, counted from 0, with zeros behind the last bit
abbrev pub packed_sector : ℕ → List Bool → List ℕ
packed_sector index bits = packed 512 (drop (sector_bits * index) bits)

-- ---- bytes as text

-- the 64 symbols
abbrev pub symbols : List ℕ
symbols = codes "ABCDEFGHIJKLMNOPQRSTUVWXYZabcdefghijklmnopqrstuvwxyz0123456789+/"

-- the symbol of six bits
abbrev pub symbol : ℕ → ℕ
symbol k = slice_index symbols k

-- some bytes in base64
unfoldable pub base64 : List ℕ → List ℕ
base64 [] = []
base64 (a ∷ []) = symbol (a / 4) ∷ symbol (a % 4 * 16) ∷ 61 ∷ 61 ∷ []
base64 (a ∷ b ∷ []) = symbol (a / 4) ∷ symbol (a % 4 * 16 + b / 16) ∷ symbol (b % 16 * 4) ∷ 61 ∷ []
base64 (a ∷ b ∷ c ∷ rest) = symbol (a / 4) ∷ symbol (a % 4 * 16 + b / 16) ∷ symbol (b % 16 * 4 + c / 64) ∷ symbol (c % 64) ∷ base64 rest

-- the text of the first bits, so many: as many bytes as they take, filled up with zeros, in base64
abbrev pub spelled_first : ℕ → List Bool → List ℕ
spelled_first count bits = base64 (packed (div_up count 8) (take count bits))

-- the text of some bits: as many bytes as they take, in base64
abbrev pub spelled : List Bool → List ℕ
spelled bits = base64 (packed (div_up (length bits) 8) bits)
