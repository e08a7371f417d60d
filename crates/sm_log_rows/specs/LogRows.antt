-- Changes of a log's row in the table.
use Rattle.std.specs.Prelude.{◌≡◌, ◌≤◌, ◌⊎◌, ℕ, Bool, true, false, List, None}
use Rattle.std.specs.List.{filter, flat_map}
use Rattle.common_laws.specs.Lists.{In}
use Rattle.sm_base.specs.Kinds.{is_log}
use Rattle.sm_base.specs.declared.names.Name.{Name}
use Rattle.sm_base.specs.declared.names.Name.TheVariants.{Cbt}
use Rattle.vg_meta.specs.Tables.{Row, VolumeTable, rows}
use Rattle.vg_meta.specs.declared.changes.Change.{Change}
use Rattle.vg_meta.specs.declared.changes.Change.TheVariants.{Create, Remove, Rename, Grow, Cut, Mark}
use Rattle.sm_standing.specs.Dropped.{is_useless}
use Rattle.sm_standing.specs.Contents.{Content}
use Rattle.sm_standing.specs.Outlines.{Outline}
use Rattle.sm_standing.specs.Standing.{candidates}

-- a log's volume is made, goes, or gets or loses a mark
abbrev pub IsOfLog : Change → Type 0
IsOfLog (Create name fresh extents) = is_log name ≡ true
IsOfLog (Remove name) = is_log name ≡ true
IsOfLog (Rename from to) = ⊥
IsOfLog (Grow name extents) = ⊥
IsOfLog (Cut name keep) = ⊥
IsOfLog (Mark name tag on) = is_log name ≡ true

-- no log is linked to a parent, as no log is an image
abbrev pub HasNoLogLink : Outline → Type 0
HasNoLogLink x = (u : List ℕ) → x.links (Cbt u) ≡ None

-- two tables in which each volume but a log is the same: a test that is false of logs selects the same volumes, all of them speak of the same UUIDs,
-- and the sequence number of the second is no lower
pub record AreApartFromLogs (a b : VolumeTable) : Type 0 where
  pub same : (n : Name) → is_log n ≡ false → rows b n ≡ rows a n
  pub kept : (t : Row → Bool) → ((r : Row) → is_log r.name ≡ true → t r ≡ false) → filter t b.volumes ≡ filter t a.volumes
  pub among : (r : Row) → In r b.volumes → (is_log r.name ≡ true) ⊎ In r a.volumes
  pub spoken : flat_map (λ (r : Row). candidates r.name) b.volumes ≡ flat_map (λ (r : Row). candidates r.name) a.volumes
  pub later : a.sequence ≤ b.sequence

-- logs went that are of no use: all other volumes are there as they were, and none came
pub record IsDropping (t u : VolumeTable) : Type 0 where
  pub apart : AreApartFromLogs t u
  pub stays : (r : Row) → In r t.volumes → is_useless t r ≡ false → In r u.volumes
  pub among : (r : Row) → In r u.volumes → In r t.volumes

-- a content with another table; its sectors stay
abbrev pub with_table : Content → VolumeTable → Content
with_table c t = record c { table = t }
