-- By how much the sequence number rises at an accepted command: one for each commit of the table of volumes (this
-- project's format). Records, footers and sectors are written without a commit.
use Rattle.std.specs.Prelude.{ℕ, ◌+◌, nat_lt, Bool, true, false, List, Option, Some, None}
use Rattle.std.specs.Str.{bytes_eq}
use Rattle.sm_base.specs.declared.names.Name.{Name}
use Rattle.sm_base.specs.declared.operations.Mode.TheVariants.{Rw}
use Rattle.sm_machine.specs.Operations.{Op}
use Rattle.sm_machine.specs.Operations as op
use Rattle.sm_base.specs.declared.operations.Plan.{Plan}
use Rattle.sm_base.specs.declared.operations.Plan.TheVariants as plan
use Rattle.sm_machine.specs.declared.commands.Command.{Command}
use Rattle.sm_machine.specs.declared.commands.Command.TheVariants.{Create, Delete, Attach, Detach, Snapshot, Clone, Resize, Gc}
use Rattle.sm_machine.specs.Shapes.{Shape, image_uuid, find_image}
use Rattle.sm_machine.specs.Refusals.{need}
use Rattle.sm_machine.specs.Collector.{next_step}

-- whether the running operation folds the leaf of this disk
unfoldable pub folds : Op → List ℕ → Bool
folds (op.Leaf leaf parent cursor) u = bytes_eq (image_uuid leaf) u
folds (op.Live leaf parent cursor dirty) u = bytes_eq (image_uuid leaf) u
folds op.Idle u = false
folds (op.Copy child parent cursor) u = false
folds (op.Relink child parent) u = false

-- the disk whose folding a command gives up
unfoldable pub gives_up : Command → Option (List ℕ)
gives_up (Attach u mode) = Some u
gives_up (Snapshot u twin) = Some u
gives_up (Clone u twin) = Some u
gives_up (Resize u size) = Some u
gives_up (Delete u) = Some u
gives_up (Detach u) = Some u
gives_up _ = None

-- whether the command gives the running operation up: its entry is removed by the first commit
unfoldable pub is_given_up : Shape → Command → Bool
is_given_up s c = elim (gives_up c) [ None ↦ false | Some u ↦ folds s.op u ]

-- one where a test passes
abbrev pub one_if : Bool → ℕ
one_if true = 1
one_if false = 0

-- enlarging a volume: an entry is made, the extents are added, the entry is removed
abbrev pub growth_commits : Bool → ℕ
growth_commits true = 3
growth_commits false = 0

-- the extents of the image of a name
abbrev pub extents_of : Name → Shape → ℕ
extents_of n s = elim (find_image n s.images) [ None ↦ 0 | Some i ↦ i.extents ]

-- of a step of the collector
unfoldable pub plan_commits : Shape → Plan → ℕ
plan_commits s plan.Abandon = 1
plan_commits s (plan.Copy b) = 0
plan_commits s plan.Turn = 1
plan_commits s (plan.RelinkOne child) = 0
plan_commits s plan.Finish = 1
plan_commits s plan.Swap = 5
plan_commits s (plan.Remove name) = 1
plan_commits s (plan.Deflate name to) = 1
plan_commits s (plan.Begin child parent to) = growth_commits (nat_lt (extents_of parent s) to) + 1
plan_commits s (plan.Leaf leaf parent to) = growth_commits (nat_lt (extents_of parent s) to) + 1
plan_commits s (plan.Live leaf parent to) = growth_commits (nat_lt (extents_of parent s) to) + 1
plan_commits s (plan.Blocked needed room) = 0
plan_commits s plan.Idle = 0

-- of a command, apart from giving an operation up
unfoldable pub own_commits : Shape → Command → ℕ
own_commits s (Create u size raw label) = 2
own_commits s (Delete u) = 1
own_commits s (Attach u Rw) = growth_commits (nat_lt 0 (need s (Attach u Rw)))
own_commits s (Resize u size) = growth_commits (nat_lt 0 (need s (Resize u size)))
own_commits s (Snapshot u twin) = 8
own_commits s (Clone u twin) = 8
own_commits s Gc = plan_commits s (next_step s)
own_commits s _ = 0

-- of a command
unfoldable pub commits : Shape → Command → ℕ
commits s c = one_if (is_given_up s c) + own_commits s c
