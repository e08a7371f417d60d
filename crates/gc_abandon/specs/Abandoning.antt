-- What giving the fold of a leaf up asks of the operation, and makes of it and of the shape (this project's format).
use Rattle.std.specs.Prelude.{Bool, true, false, List, ℕ, Option, Some, None, if◌then◌else◌}
use Rattle.std.specs.Str.{bytes_eq}
use Rattle.sm_base.specs.declared.names.Name.{Name}
use Rattle.sm_base.specs.declared.names.Name.TheVariants.{Leaf}
use Rattle.sm_base.specs.declared.operations.Op.{Op as Told}
use Rattle.sm_base.specs.declared.operations.Op.TheVariants as as_told
use Rattle.sm_machine.specs.Operations.{Op}
use Rattle.sm_machine.specs.Operations as op
use Rattle.sm_machine.specs.Commits.{folds}
use Rattle.sm_machine.specs.declared.commands.Command.{Command}
use Rattle.sm_machine.specs.declared.commands.Command.TheVariants.{Attach, Clone, Delete, Detach, Resize, Snapshot}
use Rattle.sm_machine.specs.Shapes.{Shape, image_uuid, risen}
use Rattle.vg_meta.specs.Changes.{applied}
use Rattle.vg_meta.specs.Tables.{VolumeTable}
use Rattle.vg_meta.specs.declared.changes.Change.TheVariants.{Remove}

-- a leaf is folded
abbrev pub folding : Op → Bool
folding op.Idle = false
folding (op.Copy child parent cursor) = false
folding (op.Relink child parent) = false
folding (op.Leaf leaf parent cursor) = true
folding (op.Live leaf parent cursor dirty) = true

-- the leaf that an operation folds, as it is told, and its parent
abbrev pub folded_pair : Told → Option (Name × Name)
folded_pair as_told.Idle = None
folded_pair (as_told.Copy child parent cursor) = None
folded_pair (as_told.Relink child parent) = None
folded_pair (as_told.Leaf leaf parent cursor) = Some (leaf, parent)
folded_pair (as_told.Live leaf parent cursor dirty) = Some (leaf, parent)

-- the operation is over where it folds the leaf of this disk
abbrev pub unfolded : Op → List ℕ → Op
unfolded o u = if folds o u then op.Idle else o

-- the table without the entry of an operation that folds the leaf of this disk
abbrev pub unfolded_table : Op → List ℕ → VolumeTable → VolumeTable
unfolded_table op.Idle u t = t
unfolded_table (op.Copy v p cursor) u t = t
unfolded_table (op.Relink v p) u t = t
unfolded_table (op.Leaf l p cursor) u t = if bytes_eq (image_uuid l) u then applied t (Remove (Leaf (image_uuid l) (image_uuid p))) else t
unfolded_table (op.Live l p cursor dirty) u t = if bytes_eq (image_uuid l) u then applied t (Remove (Leaf (image_uuid l) (image_uuid p))) else t

-- no operation runs
abbrev pub idle : Shape → Shape
idle s = record s { op = op.Idle }

-- no operation runs, by one commit
abbrev pub abandoned : Shape → Shape
abandoned s = record s { sequence = risen s.sequence 1; op = op.Idle }

-- where a test passes
abbrev pub abandoned_where : Bool → Shape → Shape
abandoned_where true s = abandoned s
abandoned_where false s = s

-- a command on one disk, which makes no other: what it makes of the shape does not depend on the number of commits
abbrev pub is_own : Command → Bool
is_own (Delete u) = true
is_own (Attach u mode) = true
is_own (Detach u) = true
is_own (Resize u size) = true
is_own _ = false

-- a command that makes a disk of another: its base has the number of commits
abbrev pub is_fork : Command → Bool
is_fork (Snapshot u twin) = true
is_fork (Clone u twin) = true
is_fork _ = false
