-- The rows of the disks, by what is in memory (this project's format).
use Rattle.std.specs.Prelude.{ℕ, ◌*◌, ◌-◌, ◌^◌, min, Bool, List, [], ◌∷◌, Option, Some, None}
use Rattle.common_laws.specs.Lists.{insert_by}
use Rattle.sm_machine.specs.Disks.{sector_bytes, uuid_before}
use Rattle.sm_machine.specs.declared.replies.DiskRow.{DiskRow}
use Rattle.sm_record.specs.declared.records.Record.{Record}
use Rattle.vhd_image.specs.Bodies.{sector_count}
use Rattle.vhd_chain.specs.declared.rows.TreeRow.{TreeRow}
use Rattle.sm_ready.specs.Shown.{of_shown, of_visible}

-- the size in sectors of an image, where it is visible
abbrev pub visible_size : Option TreeRow → Option ℕ
visible_size o = of_visible (λ r. sector_count r.image) o

-- the size in sectors of the visible image of a UUID
abbrev pub shown_size : List TreeRow → List ℕ → Option ℕ
shown_size rows u = of_shown (λ r. sector_count r.image) rows u

-- so many sectors in bytes, up to the greatest number of 64 bits
abbrev pub byte_size : ℕ → ℕ
byte_size sectors = min (sectors * sector_bytes) (2 ^ 64 - 1)

-- a disk of so many sectors, as it is listed
abbrev pub row_with : Record → Option ℕ → Option DiskRow
row_with r None = None
row_with r (Some sectors) = Some (record { uuid = r.uuid; size = byte_size sectors; read_only = r.read_only; origin = r.origin; label = r.label })

-- the row of a record's disk, where a visible image has its UUID
abbrev pub listed_row : List TreeRow → Record → Option DiskRow
listed_row rows r = row_with r (shown_size rows r.uuid)

abbrev pub is_row_before : DiskRow → DiskRow → Bool
is_row_before a b = uuid_before a.uuid b.uuid

-- one row more, in order of UUID
abbrev pub with_row : DiskRow → List DiskRow → List DiskRow
with_row r rows = insert_by is_row_before r rows

abbrev pub with_listed : Option DiskRow → List DiskRow → List DiskRow
with_listed None rows = rows
with_listed (Some r) rows = with_row r rows

-- the rows of the records of some places, in order of UUID
unfoldable pub listed : List TreeRow → List (Option Record) → List DiskRow
listed rows [] = []
listed rows (None ∷ places) = listed rows places
listed rows (Some r ∷ places) = with_listed (listed_row rows r) (listed rows places)
