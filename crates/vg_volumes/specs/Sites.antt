-- What never changes in a volume group, and what stays the same from call to call.
use Rattle.std.specs.Prelude.{ℕ, ◌*◌, ◌≤◌, List, length, nat_le, if◌then◌else◌}
use Rattle.sm_base.specs.declared.names.Name.{Name}
use Rattle.sm_base.specs.declared.sizes.Geometry.{Geometry}
use Rattle.sm_disk.specs.Held.{Held}
use Rattle.vg_meta.specs.Tables.{VolumeTable, rows, extents_of}
use Rattle.vg_meta.specs.Roomy.{RoomyTable, places}
use Rattle.vg_meta.specs.Text.{text}
use Rattle.vg_meta.specs.declared.changes.Change.{Change}
use Rattle.vg_meta.specs.Changes.{applied, spare_after, places_after}
use Rattle.vg_volumes.specs.Volumes.{span, volume}

-- the sizes, the number of extents, the number of the layout by which they stand on the device, the repository's UUID, and the sectors of
-- the device
pub record Site : Type 0 where
  pub geometry : Geometry
  pub count : ℕ
  pub layout : ℕ
  pub identity : List ℕ
  pub sectors : ℕ

-- the sectors of all extents
abbrev pub area_size : Site → ℕ
area_size s = s.count * s.geometry.extent

-- the sectors of the volume of this name, 0 where there is none
abbrev pub size_of : Site → VolumeTable → Name → ℕ
size_of s t n = span s.geometry.extent (extents_of (rows t n))

-- what the volume of this name holds
abbrev pub volume_of : Site → VolumeTable → Held → Name → Held
volume_of s t area n = volume s.geometry.extent (extents_of (rows t n)) area

-- the most bytes that a table's text may have where a group has so many extents: those of a slot of the narrow layout where these may
-- stand in it, and of the wide one where they are more
abbrev pub text_limit : ℕ → ℕ
text_limit count = if nat_le count 65536 then 1047040 else 8519680

-- the text of the table after a change is within the limit for so many extents
abbrev pub Fits : ℕ → VolumeTable → Change → Type 0
Fits count t change = length (text (applied t change)) ≤ text_limit count

-- no spare number is lower than before
pub record NoLessRoom (old new : RoomyTable) : Type 0 where
  pub spare_rows : old.spare ≤ new.spare
  pub spare_extents : (n : Name) → places old n ≤ places new n

-- after a change the spare numbers are at least those that it leaves
pub record RoomAfter (change : Change) (old new : RoomyTable) : Type 0 where
  pub spare_rows : spare_after old.spare change ≤ new.spare
  pub spare_extents : (n : Name) → places_after (places old) change n ≤ places new n
