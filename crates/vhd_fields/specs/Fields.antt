-- Fields at their offsets, and the first test that fails. Offsets and lengths are in bytes; every number is
-- big-endian (Microsoft Virtual Hard Disk Image Format Specification 1.0, 'Hard Disk Footer Format' and
-- 'Dynamic Disk Header Format').
use Rattle.std.specs.Prelude.{ℕ, Bool, List, [], ◌∷◌, drop, take, Option, None, Some, Result, Ok, Err, if◌then◌else◌}
use Rattle.byteorder.specs.Endian.{big_number}
use Rattle.vhd_fields.specs.declared.faults.FieldFault.{FieldFault}

-- the bytes from an offset on, so many
abbrev pub bytes_at : ℕ → ℕ → List ℕ → List ℕ
bytes_at at many bytes = take many (drop at bytes)

-- the number in so many bytes from an offset on
abbrev pub number_at : ℕ → ℕ → List ℕ → ℕ
number_at at many bytes = big_number many (drop at bytes)

-- the version 1.0 of both formats, 00010000 hex
abbrev pub version : ℕ
version = 65536

-- the fault of the first test that fails
abbrev pub first_fault : List (Bool × FieldFault) → Option FieldFault
first_fault [] = None
first_fault (test ∷ tests) = if test.0 then first_fault tests else Some test.1

-- the fields, unless there is a fault
abbrev pub unless_fault : {A : Type 0} → Option FieldFault → A → Result A FieldFault
unless_fault None fields = Ok fields
unless_fault (Some fault) fields = Err fault
