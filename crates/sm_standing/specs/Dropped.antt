-- The logs of no use (this project's format): those that are new, and those whose disk is not there. They go before all else
-- that an opening repairs, one commit each; and so what an opening makes of a content with logs.
use Rattle.std.specs.Prelude.{not, ◌||◌, Bool, false, List, map, Option, is_some}
use Rattle.std.specs.List.{filter}
use Rattle.sm_base.specs.declared.names.Name.{Name}
use Rattle.sm_base.specs.declared.names.Name.TheVariants.{Mgt, Vhd, Raw, Old, Cbt, Clone, Inflate, Coalesce, Relink, Leaf}
use Rattle.vg_meta.specs.Tables.{VolumeTable, Row}
use Rattle.vg_meta.specs.declared.changes.Change.{Change}
use Rattle.vg_meta.specs.declared.changes.Change.TheVariants.{Remove}
use Rattle.sm_standing.specs.Checks.{first_name}
use Rattle.sm_machine.specs.Shapes.{Shape}
use Rattle.sm_standing.specs.Contents.{Content}
use Rattle.sm_standing.specs.Opened.{applied_all, on_table, opened}
use Rattle.sm_standing.specs.Standing.{standing_volume}

-- whether this is the name of such a log
abbrev pub is_useless_as : VolumeTable → Bool → Name → Bool
is_useless_as t fresh (Cbt u) = fresh || not (is_some (standing_volume t u))
is_useless_as t fresh Mgt = false
is_useless_as t fresh (Vhd u) = false
is_useless_as t fresh (Raw u) = false
is_useless_as t fresh (Old u) = false
is_useless_as t fresh (Clone disk base twin) = false
is_useless_as t fresh (Inflate image extents) = false
is_useless_as t fresh (Coalesce child parent) = false
is_useless_as t fresh (Relink child parent) = false
is_useless_as t fresh (Leaf leaf parent) = false

-- whether a volume is a log that is new, or whose disk is not there
abbrev pub is_useless : VolumeTable → Row → Bool
is_useless t r = is_useless_as t r.fresh r.name

-- the first log, in order of name, that is new or whose disk is not there
abbrev pub first_useless : VolumeTable → Option Name
first_useless t = first_name (is_useless t) t.volumes

-- the commits that remove the logs that are new or whose disk is not there, in order of name
abbrev pub drop_changes : VolumeTable → List Change
drop_changes t = map (λ (r : Row). Remove r.name) (filter (is_useless t) t.volumes)

-- the table without the logs that are new or whose disk is not there
unfoldable pub dropped : VolumeTable → VolumeTable
dropped t = applied_all t (drop_changes t)

-- what an opening makes of a content: the logs of no use go first, and then all else is repaired
unfoldable pub opening : Content → Shape
opening c = opened (on_table c (dropped c.table))
