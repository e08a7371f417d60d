-- The entries of the journal (this project's format): volumes without extents, each of which says all in its name.
use Rattle.std.specs.Prelude.{Bool, true, false, ◌||◌, nat_lt, count_by, List, []}
use Rattle.sm_base.specs.declared.names.Name.{Name}
use Rattle.sm_base.specs.declared.names.Name.TheVariants.{Mgt, Vhd, Raw, Old, Cbt, Clone, Inflate, Coalesce, Relink, Leaf}
use Rattle.vg_meta.specs.declared.changes.Change.{Change}
use Rattle.vg_meta.specs.declared.changes.Change.TheVariants.{Create}

-- the entry of a collector's operation
abbrev pub is_operation : Name → Bool
is_operation Mgt = false
is_operation (Vhd u) = false
is_operation (Raw u) = false
is_operation (Old u) = false
is_operation (Cbt u) = false
is_operation (Clone disk base twin) = false
is_operation (Inflate image extents) = false
is_operation (Coalesce child parent) = true
is_operation (Relink child parent) = true
is_operation (Leaf leaf parent) = true

-- the entry of a call that forks a disk or enlarges an image
abbrev pub is_call : Name → Bool
is_call Mgt = false
is_call (Vhd u) = false
is_call (Raw u) = false
is_call (Old u) = false
is_call (Cbt u) = false
is_call (Clone disk base twin) = true
is_call (Inflate image extents) = true
is_call (Coalesce child parent) = false
is_call (Relink child parent) = false
is_call (Leaf leaf parent) = false

-- two entries of one class stand among the names
abbrev pub has_more : List Name → Bool
has_more names = nat_lt 1 (count_by is_operation names) || nat_lt 1 (count_by is_call names)

-- an entry is made without extents and without marks
abbrev pub putting : Name → Change
putting entry = Create entry false []
