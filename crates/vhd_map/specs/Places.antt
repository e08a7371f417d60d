-- Where the slots of an image stand, and how the block allocation table names them (VHD specification,
-- "Block Allocation Table"). Places are counted in sectors of 512 bytes from the image's begin. A slot is
-- a bitmap, one sector, and a block's sectors after it; slot 0 begins at `first`.
use Rattle.std.specs.Prelude.{◌≡◌, ◌≢◌, ℕ, ◌+◌, ◌*◌, ◌<◌, ◌⊎◌, List, [], ◌∷◌, Option, None, Some, slice_index, false}
use Rattle.std.specs.Int.{w32, from_be_bytes}
use Rattle.vhd_map.specs.Slots.{is_used}

-- part j of a slot: its bitmap for 0, and sector i of its block for 1 + i
unfoldable pub spot : ℕ → ℕ → ℕ → ℕ → ℕ
spot first block slot j = first + (slot * (1 + block) + j)

-- the entry of a block that has no slot: all ones
abbrev pub blank : ℕ
blank = 4294967295

-- the entry of a block: the place of its slot's bitmap
abbrev pub code : ℕ → ℕ → Option ℕ → ℕ
code first block None = blank
code first block (Some slot) = spot first block slot 0

-- entry j of a sector of the table: four bytes, the highest first
unfoldable pub word : List ℕ → ℕ → ℕ
word sector j =
    from_be_bytes w32 (slice_index sector (4 * j) ∷ slice_index sector (4 * j + 1) ∷ slice_index sector (4 * j + 2) ∷ slice_index sector (4 * j + 3) ∷ [])

-- the entry names this slot, which is below `slots` and not in use in map m
pub record Named (first block slots : ℕ) (m : List (Option ℕ)) (entry slot : ℕ) : Type 0 where
  pub within : slot < slots
  pub free : is_used m slot ≡ false
  pub named : entry ≡ code first block (Some slot)

-- the entry names some such slot
abbrev pub NamesFree : ℕ → ℕ → ℕ → List (Option ℕ) → ℕ → Type 0
NamesFree first block slots m entry = (slot : ℕ) × Named first block slots m entry slot

-- sector `index` of the table can be read into the map m of an image of so many blocks and slots: each of
-- its 128 entries is blank, or is that of a block of the image and names a free slot, and no two entries
-- that are not blank are the same
pub record IsReadable (first block blocks slots : ℕ) (m : List (Option ℕ)) (index : ℕ) (sector : List ℕ) : Type 0 where
  pub each : (j : ℕ) → j < 128 → (word sector j ≡ blank) ⊎ ((128 * index + j < blocks) × NamesFree first block slots m (word sector j))
  pub once : (i j : ℕ) → i < 128 → j < 128 → word sector i ≢ blank → word sector i ≡ word sector j → i ≡ j

-- the numbers `found` are what the first n of its entries say: all ones for a blank one, else the slot
pub record NamesSlots (first block blocks slots : ℕ) (m : List (Option ℕ)) (index : ℕ) (sector found : List ℕ) (n : ℕ) : Type 0 where
  pub each : (j : ℕ) → j < n → ((word sector j ≡ blank) × (slice_index found j ≡ blank)) ⊎ ((128 * index + j < blocks) × Named first block slots m (word sector j) (slice_index found j))
  pub once : (i j : ℕ) → i < j → j < n → slice_index found j ≢ blank → slice_index found i ≢ slice_index found j
