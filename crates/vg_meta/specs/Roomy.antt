-- What contracts see of a table in memory: the table, and beside it how many rows, and how many extents of each
-- volume, may be added without memory (this project's own). 'The same table' never speaks of these numbers.
use Rattle.std.specs.Prelude.{◌≡◌, ℕ, true, false, List, [], ◌∷◌, map, Some, slice_get, take, if◌then◌else◌}
use Rattle.std.specs.List.{AllByRecursion}
use Rattle.std.specs.Ordering.{is_lt}
use Rattle.sm_base.specs.declared.names.Name.{Name}
use Rattle.sm_base.specs.Names.{name_cmp}
use Rattle.vg_meta.specs.Tables.{Row, VolumeTable, row_of, name_eq}

-- a volume, and its spare places for extents
pub record RoomyRow : Type 0 where
  pub row : Row
  pub spare : ℕ

-- a table, and its spare rows
pub record RoomyTable : Type 0 where
  pub sequence : ℕ
  pub rows : List RoomyRow
  pub spare : ℕ

-- the volumes alone
abbrev pub rows_alone : List RoomyRow → List Row
rows_alone hs = map (λ h. h.row) hs

-- the table alone
abbrev pub table_alone : RoomyTable → VolumeTable
table_alone k = record { sequence = k.sequence; volumes = rows_alone k.rows }

-- the spare places of the volume of this name that stands first, and 0 where there is none
unfoldable pub places_in : List RoomyRow → Name → ℕ
places_in [] n = 0
places_in (h ∷ hs) n = if name_eq h.row.name n then h.spare else places_in hs n

-- the spare places of the volume of this name in a table
abbrev pub places : RoomyTable → Name → ℕ
places k = places_in k.rows

-- the volume of this name is this one
pub record IsHeld (hs : List RoomyRow) (n : Name) (h : RoomyRow) : Type 0 where
  pub row : row_of (rows_alone hs) n ≡ Some h.row
  pub spare : places_in hs n ≡ h.spare

-- the first volume of this name stands at this place
pub record IsPlace (hs : List RoomyRow) (n : Name) (i : ℕ) : Type 0 where
  pub held : RoomyRow
  pub at : slice_get hs i ≡ Some held
  pub is : IsHeld hs n held
  pub before : AllByRecursion (λ h. name_eq h.row.name n ≡ false) (take i hs)

-- in front of this place no volume is behind this name, and at it one is, if the list does not end there
pub record IsSlot (hs : List RoomyRow) (n : Name) (i : ℕ) : Type 0 where
  pub before : AllByRecursion (λ h. is_lt (name_cmp n h.row.name) ≡ false) (take i hs)
  pub here : (h : RoomyRow) → slice_get hs i ≡ Some h → is_lt (name_cmp n h.row.name) ≡ true
