-- A table that may come to have all its rows without memory still may after a volume is removed, and while it stays.
use Rattle.std.proofs.Common.{◌≡◌, ℕ, ◌+◌, ◌-◌, ◌≤◌, length, ap, arith}
use Rattle.std.proofs.lemmas.List.{length-map}
use Rattle.sm_base.specs.declared.names.Name.{Name}
use Rattle.vg_meta.specs.Tables.{VolumeTable}
use Rattle.vg_meta.specs.declared.changes.Change.TheVariants.{Remove}
use Rattle.vg_meta.specs.Changes.{applied, without}
use Rattle.vg_meta.specs.Roomy.{RoomyTable, RoomyRow, table_alone}
use Rattle.vg_meta.proofs.SpliceLaws.{length-without}
use Rattle.vg_volumes.specs.Sites.{NoLessRoom}
use Rattle.sm_ready.specs.Repairs.{IsNewVolume}
use Rattle.sm_ready.specs.Sessions.{HasRows, row_limit}

pub rows_removed : (old new : RoomyTable) (n : Name) → IsNewVolume (table_alone old) n → table_alone new ≡ applied (table_alone old) (Remove n) → old.spare + 1 ≤ new.spare → HasRows old → HasRows new
rows_removed old new n there is more h =
    let long : length (table_alone new).volumes ≡ length (without n (table_alone old).volumes) = ap (λ (t : VolumeTable). length t.volumes) is in
    omega (arith, long, length-without (table_alone old).volumes n there.0 there.1, more, h)

pub rows_same : (old new : RoomyTable) → table_alone new ≡ table_alone old → NoLessRoom old new → HasRows old → HasRows new
rows_same old new is room h =
    let long : length (table_alone new).volumes ≡ length (table_alone old).volumes = ap (λ (t : VolumeTable). length t.volumes) is in
    omega (arith, long, room.spare_rows, h)

-- room for the rows that are wanting
pub rows_made : (old new : RoomyTable) (rows : ℕ) → rows ≡ length old.rows → table_alone new ≡ table_alone old → row_limit - rows ≤ new.spare → HasRows new
rows_made old new rows is same made =
    let long : length (table_alone new).volumes ≡ length (table_alone old).volumes = ap (λ (t : VolumeTable). length t.volumes) same in
    let map_long : length (table_alone old).volumes ≡ length old.rows = length-map old.rows (λ (h : RoomyRow). h.row) in
    omega (arith, long, map_long, is, made)
