-- The record of a disk in one sector of 512 bytes (this project's format). Numbers are big-endian. A sector
-- of zeros is free. Offsets in bytes:
--   0    8   the letters LVHDDISK
--   8   16   the disk's UUID, not nil
--  24   16   the UUID of its origin, zeros where it has none
--  40    1   1 for a snapshot, which is read-only, else 0
--  41    1   the length of the label, 1 to 64
--  42   64   the label, then zeros
-- 106  402   zeros
-- 508    4   the sum of the bytes 0 to 507
use Rattle.std.specs.Prelude.{◌≡◌, ℕ, ◌-◌, ◌<◌, All, Bool, true, false, ◌&&◌, ◌==◌, IsTrue, if◌then◌else◌, List, ◌∷◌, ◌++◌, take, drop, length, replicate, sum, slice_index, codes, Option, Some, None, IfSome}
use Rattle.std.specs.List.{list_all}
use Rattle.std.specs.Option.{option_and_then}
use Rattle.std.specs.Int.{w32, to_be_bytes, from_be_bytes}
use Rattle.std.specs.Str.{bytes_eq}
use Rattle.sm_base.specs.Names.{IsUuid}
use Rattle.sm_base.specs.Labels.{is_label}
use Rattle.uuid.specs.Parts.{is_nil_bytes}
use Rattle.sm_record.specs.declared.records.Record.{Record}
use Rattle.sm_record.specs.declared.records.Reading.{Reading}
use Rattle.sm_record.specs.declared.records.Reading.TheVariants.{Free, Taken, Damaged}

-- ---- what is written

-- 512 bytes
pub record IsSector (s : List ℕ) : Type 0 where
  pub long : length s ≡ 512
  pub bytes : All (λ b. b < 256) s

-- sixteen bytes, not all of them zeros
pub record IsGiven (u : List ℕ) : Type 0 where
  pub uuid : IsUuid u
  pub not_nil : is_nil_bytes u ≡ false

-- the disk's UUID, and its origin's where it has one, are given, and the label is one
pub record IsRecord (r : Record) : Type 0 where
  pub uuid : IsGiven r.uuid
  pub origin : IfSome r.origin IsGiven
  pub label : IsTrue (is_label r.label)

-- ---- the sector of a record, field by field

-- so many zeros
abbrev pub zeros : ℕ → List ℕ
zeros n = replicate n 0

-- LVHDDISK
abbrev pub cookie : List ℕ
cookie = codes "LVHDDISK"

-- a UUID, and zeros for none
abbrev pub origin_bytes : Option (List ℕ) → List ℕ
origin_bytes None = zeros 16
origin_bytes (Some u) = u

abbrev pub flag_byte : Bool → ℕ
flag_byte flag = if flag then 1 else 0

-- the label in 64 bytes
abbrev pub label_bytes : List ℕ → List ℕ
label_bytes text = text ++ zeros (64 - length text)

-- the bytes 0 to 507
unfoldable pub fields : Record → List ℕ
fields r =
    cookie
    ++ (r.uuid
    ++ (origin_bytes r.origin
    ++ (flag_byte r.read_only ∷ (length r.label ∷ (label_bytes r.label ++ zeros 402)))))

-- the sector: the fields, then their sum
unfoldable pub record_sector : Record → List ℕ
record_sector r = fields r ++ to_be_bytes w32 (sum (fields r))

-- ---- what a sector reads as

-- so many bytes from an offset on
abbrev pub at : ℕ → ℕ → List ℕ → List ℕ
at offset count sector = take count (drop offset sector)

-- bytes that are all zeros
abbrev pub is_zeros : List ℕ → Bool
is_zeros bytes = list_all (λ b. b == 0) bytes

-- the cookie stands in front and the sum at the end
unfoldable pub is_sealed : List ℕ → Bool
is_sealed sector = bytes_eq cookie (at 0 8 sector) && (from_be_bytes w32 (at 508 4 sector) == sum (at 0 508 sector))

-- a UUID, where it is not nil
abbrev pub given : List ℕ → Option (List ℕ)
given u = if is_nil_bytes u then None else Some u

-- true is 1, false is 0, and nothing else is either
abbrev pub flag_of : ℕ → Option Bool
flag_of b = if b == 0 then Some false else (if b == 1 then Some true else None)

-- the label of this length, where one stands there and zeros follow
unfoldable pub label_of : ℕ → List ℕ → Option (List ℕ)
label_of count bytes =
    if is_label (take count bytes) && is_zeros (drop count bytes) then Some (take count bytes) else None

infixl 10 ◌>>=◌
abbrev pub ◌>>=◌ : {A B : Type 0} → Option A → (A → Option B) → Option B
o >>= f = option_and_then f o

-- the record that stands in the sector, where one does
unfoldable pub record_in : List ℕ → Option Record
record_in sector = do
  uuid ← given (at 8 16 sector)
  read_only ← flag_of (slice_index sector 40)
  label ← label_of (slice_index sector 41) (at 42 466 sector)
  if is_sealed sector then Some (record { uuid = uuid; label = label; origin = given (at 24 16 sector); read_only = read_only }) else None

abbrev pub taken_or_damaged : Option Record → Reading
taken_or_damaged None = Damaged
taken_or_damaged (Some r) = Taken r

-- free where it is all zeros, taken where a record stands in it, else damaged
unfoldable pub reading : List ℕ → Reading
reading sector = if is_zeros sector then Free else taken_or_damaged (record_in sector)

-- a fact of the record, where one was read
abbrev pub IfTaken : Reading → (Record → Type 0) → Type 0
IfTaken (Taken r) Fact = Fact r
IfTaken Free Fact = Unit {0}
IfTaken Damaged Fact = Unit {0}
