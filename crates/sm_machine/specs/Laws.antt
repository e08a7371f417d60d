-- Laws of the machine: what holds of every step, whatever the definitions look like.
use Rattle.std.specs.Prelude.{◌≡◌, ◌≢◌, ℕ, ◌+◌, ◌*◌, ◌<◌, ◌≤◌, Bool, true, false, not, List, [], ◌∷◌, ◌++◌, map, Some, None, if◌then◌else◌}
use Rattle.std.specs.List.{filter, list_any}
use Rattle.common_laws.specs.Lists.{In}
use Rattle.sm_base.specs.declared.names.Name.{Name}
use Rattle.sm_base.specs.declared.operations.Mode.TheVariants.{Rw}
use Rattle.sm_machine.specs.Operations as op
use Rattle.sm_base.specs.declared.operations.Plan.{Plan}
use Rattle.sm_base.specs.declared.operations.Plan.TheVariants as plan
use Rattle.sm_base.specs.declared.refusals.Refusal.{Refusal}
use Rattle.sm_machine.specs.declared.commands.Command.{Command}
use Rattle.sm_machine.specs.declared.replies.Reply.TheVariants as reply
use Rattle.sm_base.specs.Numbers.{IsGeometry}
use Rattle.sm_log.specs.Logs.{log_of}
use Rattle.sm_log.specs.Told.{Tells}
use Rattle.sm_machine.specs.declared.commands.Command.TheVariants.{Gc, Track}
use Rattle.sm_machine.specs.Disks.{Disk}
use Rattle.sm_machine.specs.Shapes.{Shape, ImageRow, Attachment, free, image_uuid, is_image_of, is_vhd, new_shape, on_image, reads_through, refs, risen, thick_in, with_image, without_image}
use Rattle.sm_machine.specs.Collector.{next_step, is_garbage, is_loose, pairs, leaves, lives, debt, IsLess}
use Rattle.sm_machine.specs.Runs.{HasSector}
use Rattle.sm_machine.specs.Steps.{State, is_attached, shape_next, step}
use Rattle.sm_machine.specs.Commits.{commits}
use Rattle.sm_machine.specs.Refusals.{log_need, log_room, refusal}
use Rattle.sm_machine.specs.Tracking.{AreGoodLogs, AreOfSnapshots, AreUntracked, begins_log, begun, ended, log_commits, logs_after, tracked, tracked_step}
use Rattle.sm_machine.specs.WellFormed.{AreDisksOf, HasRecord, IsOperation, IsSize, IsWellFormed}

-- a refused command changes neither disks nor shape
abbrev pub RefusedKeeps : Type 0
RefusedKeeps = (σ : State) (c : Command) (r : Refusal) → (step σ c).reply ≡ reply.No r → (step σ c).after ≡ σ

-- no operation runs; no hidden image is without children, no volume is to be cut, no image may be folded into its parent
pub record IsDone (s : Shape) : Type 0 where
  pub no_operation : s.op ≡ op.Idle
  pub no_garbage : list_any (is_garbage s) s.images ≡ false
  pub none_loose : list_any (is_loose s) s.images ≡ false
  pub no_pair : pairs s ≡ []
  pub no_leaf : leaves s ≡ []
  pub no_live : lives s ≡ []

-- the collector is idle only where nothing is left to do
abbrev pub IdleIsDone : Type 0
IdleIsDone = (s : Shape) → next_step s ≡ plan.Idle → IsDone s

-- the shape of a new repository is well-formed
abbrev pub NewIsWellFormed : Type 0
NewIsWellFormed = (extent block entries extents others m : ℕ) → IsGeometry extent block entries → extent ≡ m * block → others ≤ extents → IsWellFormed (new_shape extent block entries extents others)

-- a new repository has no disks
abbrev pub NewHasNoDisks : Type 0
NewHasNoDisks = (extent block entries extents others : ℕ) → AreDisksOf [] (new_shape extent block entries extents others)

-- a step keeps a shape well-formed
abbrev pub StepKeepsShape : Type 0
StepKeepsShape = (σ : State) (c : Command) → IsWellFormed σ.shape → IsWellFormed ((step σ c).after.shape)

-- a step that does something
abbrev pub is_working : Plan → Bool
is_working (plan.Blocked needed room) = false
is_working plan.Idle = false
is_working _ = true

-- each step of the collector but the blocked and the idle one works off debt
abbrev pub StepLowersDebt : Type 0
StepLowersDebt = (s : Shape) → IsWellFormed s → is_working (next_step s) ≡ true → IsLess (debt (shape_next s Gc)) (debt s)

-- a step keeps disks and shape together
abbrev pub StepKeepsDisks : Type 0
StepKeepsDisks = (σ : State) (c : Command) → IsWellFormed σ.shape → AreDisksOf σ.disks σ.shape → AreDisksOf ((step σ c).after.disks) ((step σ c).after.shape)

-- no step of the collector changes a disk
abbrev pub CollectorKeepsDisks : Type 0
CollectorKeepsDisks = (σ : State) → (step σ Gc).after.disks ≡ σ.disks

-- ---- moments inside a command

-- the volume of a VHD image may have so many extents: at least one, as many more as are free, and room for each of its
-- blocks where its disk is attached for writing
pub record MayHave (s : Shape) (i : ImageRow) (extents : ℕ) : Type 0 where
  pub there : In i s.images
  pub vhd : is_vhd i.name ≡ true
  pub some : 0 < extents
  pub room : extents ≤ i.extents + free s
  pub thick : (a : Attachment) → In a s.attached → a.mode ≡ Rw → i.hidden ≡ false → image_uuid i.name ≡ a.disk → thick_in s i.size ≤ extents

abbrev pub with_extents : ℕ → ImageRow → Shape → Shape
with_extents extents i s = record s { images = on_image i.name (λ y. record y { extents = extents }) s.images }

-- a volume that is enlarged or cut keeps a shape well-formed
abbrev pub ExtentsKeepShape : Type 0
ExtentsKeepShape = (s : Shape) (i : ImageRow) (extents : ℕ) → IsWellFormed s → MayHave s i extents → IsOperation (with_extents extents i s) s.op → IsWellFormed (with_extents extents i s)

-- a VHD image may have this greater size: each image that reads through it is as large, and each of its blocks has room
-- where its disk is attached for writing
pub record MayGrow (s : Shape) (i : ImageRow) (size : ℕ) : Type 0 where
  pub there : In i s.images
  pub vhd : is_vhd i.name ≡ true
  pub whole : IsSize s size
  pub more : i.size ≤ size
  pub children : (y : ImageRow) → In y s.images → y.parent ≡ Some i.name → size ≤ y.size
  pub thick : (a : Attachment) → In a s.attached → a.mode ≡ Rw → i.hidden ≡ false → image_uuid i.name ≡ a.disk → thick_in s size ≤ i.extents

abbrev pub with_size : ℕ → ImageRow → Shape → Shape
with_size size i s = record s { images = on_image i.name (λ y. record y { size = size }) s.images }

-- an image that gets a greater size keeps a shape well-formed, where the operation stays one
abbrev pub SizeKeepsShape : Type 0
SizeKeepsShape = (s : Shape) (i : ImageRow) (size : ℕ) → IsWellFormed s → MayGrow s i size → IsOperation (with_size size i s) s.op → IsWellFormed (with_size size i s)

-- ---- how many attached disks read through an image

-- an image of a UUID that no image has
pub record IsNewImage (s : Shape) (i : ImageRow) : Type 0 where
  pub other : (y : ImageRow) → In y s.images → image_uuid y.name ≢ image_uuid i.name

-- an image in which no attached disk stands, and through which no other reads
pub record IsUnused (s : Shape) (n : Name) : Type 0 where
  pub unattached : (a : Attachment) (y : ImageRow) → In a s.attached → In y s.images → y.name ≡ n → is_image_of a.disk y ≡ false
  pub childless : (y : ImageRow) → In y s.images → y.parent ≢ Some n

-- images with the same names, marks and parents
pub record IsSeenAlike (g : ImageRow → ImageRow) : Type 0 where
  pub name : (y : ImageRow) → (g y).name ≡ y.name
  pub hidden : (y : ImageRow) → (g y).hidden ≡ y.hidden
  pub parent : (y : ImageRow) → (g y).parent ≡ y.parent

abbrev pub one_if : Bool → ℕ
one_if b = if b then 1 else 0

-- neither a new image, nor one less that is unused, nor a change that is not seen changes the users of any image; a disk
-- that is attached or detached counts for each image that it reads through
pub record UsesFollow : Type 0 where
  pub more : (s : Shape) (i : ImageRow) (n : Name) → IsWellFormed s → IsNewImage s i → refs n (record s { images = with_image i s.images }) ≡ refs n s
  pub less : (s : Shape) (x n : Name) → IsWellFormed s → IsUnused s x → refs n (record s { images = without_image x s.images }) ≡ refs n s
  pub changed : (s : Shape) (g : ImageRow → ImageRow) (n : Name) → IsSeenAlike g → refs n (record s { images = map g s.images }) ≡ refs n s
  pub attached : (s : Shape) (a : Attachment) (n : Name) → refs n (record s { attached = s.attached ++ a ∷ [] }) ≡ refs n s + one_if (reads_through n s a.disk)
  pub detached : (s : Shape) (a : Attachment) (n : Name) → IsWellFormed s → In a s.attached
      → refs n s ≡ refs n (record s { attached = filter (λ b. not (is_attached a.disk b)) s.attached }) + one_if (reads_through n s a.disk)

-- ---- logs

-- a step with what it does to logs keeps a shape well-formed
abbrev pub TrackedStepKeepsShape : Type 0
TrackedStepKeepsShape = (σ : State) (c : Command) → IsWellFormed σ.shape → AreGoodLogs σ.shape → IsWellFormed ((tracked_step σ c).after.shape)

-- a snapshot's log finds room behind its images
abbrev pub TrackedRoom : Type 0
TrackedRoom = (s : Shape) (c : Command) → IsWellFormed s → refusal s c ≡ None → log_need s c ≤ free (shape_next s c)

-- a step with what it does to logs keeps them good
abbrev pub TrackedStepKeepsLogs : Type 0
TrackedStepKeepsLogs = (σ : State) (c : Command) → IsWellFormed σ.shape → AreGoodLogs σ.shape → AreGoodLogs ((tracked_step σ c).after.shape)

-- each log with a tag stays that of a snapshot
abbrev pub TrackedStepKeepsSnapshots : Type 0
TrackedStepKeepsSnapshots = (σ : State) (c : Command) → IsWellFormed σ.shape → AreGoodLogs σ.shape → AreOfSnapshots σ.shape → AreOfSnapshots ((tracked_step σ c).after.shape)

-- a step with what it does to logs keeps true what these tell of disks: where sectors of two disks differ, of which one was begun where the
-- other was taken, the later one's log names the piece
abbrev pub TrackedStepTells : Type 0
TrackedStepTells = (σ : State) (c : Command) → IsWellFormed σ.shape → AreDisksOf σ.disks σ.shape → AreGoodLogs σ.shape → AreOfSnapshots σ.shape
    → Tells (HasSector σ.disks) σ.shape.logs → Tells (HasSector ((tracked_step σ c).after.disks)) ((tracked_step σ c).after.shape.logs)

-- a step with what it does to logs keeps disks and shape together
abbrev pub TrackedStepKeepsDisks : Type 0
TrackedStepKeepsDisks = (σ : State) (c : Command) → IsWellFormed σ.shape → AreDisksOf σ.disks σ.shape
    → AreDisksOf ((tracked_step σ c).after.disks) ((tracked_step σ c).after.shape)

-- a step with what it does to logs: disks and reply are those of the step without, and so is all of it where logs stay and no commit is made
-- for one, as where no disk is tracked and none gets a log; a refused command changes nothing; the commits of both are counted
pub record TrackedStepFollows : Type 0 where
  pub disks : (σ : State) (c : Command) → (tracked_step σ c).after.disks ≡ (step σ c).after.disks
  pub answer : (σ : State) (c : Command) → (tracked_step σ c).reply ≡ (step σ c).reply
  pub unlogged : (σ : State) (c : Command) → logs_after σ.shape c ≡ σ.shape.logs → log_commits σ.shape c ≡ 0 → tracked_step σ c ≡ step σ c
  pub untracked : (σ : State) (c : Command) → AreUntracked σ.shape → begins_log c ≡ false → tracked_step σ c ≡ step σ c
  pub refused : (σ : State) (c : Command) (r : Refusal) → (tracked_step σ c).reply ≡ reply.No r → (tracked_step σ c).after ≡ σ
  pub counted : (s : Shape) (c : Command) → (tracked s c (shape_next s c)).sequence ≡ risen s.sequence (commits s c + log_commits s c)

-- tracking begins for a disk that is there and has no log: the shape stays well-formed where its log finds room, logs stay good, and what
-- they tell stays true. An accepted line that begins it does this and nothing else
pub record TrackingBegins : Type 0 where
  pub shape : (s : Shape) (u : List ℕ) → IsWellFormed s → AreGoodLogs s → log_room s u ≤ free s → IsWellFormed (begun s u)
  pub logs : (s : Shape) (u : List ℕ) → IsWellFormed s → AreGoodLogs s → HasRecord s u → log_of u s.logs ≡ None → AreGoodLogs (begun s u)
  pub snapshots : (s : Shape) (u : List ℕ) → AreOfSnapshots s → AreOfSnapshots (begun s u)
  pub tells : (disks : List Disk) (s : Shape) (u : List ℕ) → Tells (HasSector disks) s.logs → Tells (HasSector disks) (begun s u).logs
  pub step : (σ : State) (u : List ℕ) → IsWellFormed σ.shape → refusal σ.shape (Track u true) ≡ None → (tracked_step σ (Track u true)).after ≡ record σ { shape = begun σ.shape u }

-- tracking ends: the shape stays well-formed, logs stay good, and what they tell stays true. An accepted line that ends it does this and
-- nothing else
pub record TrackingEnds : Type 0 where
  pub shape : (s : Shape) (u : List ℕ) → IsWellFormed s → AreGoodLogs s → IsWellFormed (ended s u)
  pub logs : (s : Shape) (u : List ℕ) → IsWellFormed s → AreGoodLogs s → AreGoodLogs (ended s u)
  pub snapshots : (s : Shape) (u : List ℕ) → AreOfSnapshots s → AreOfSnapshots (ended s u)
  pub tells : (disks : List Disk) (s : Shape) (u : List ℕ) → Tells (HasSector disks) s.logs → Tells (HasSector disks) (ended s u).logs
  pub step : (σ : State) (u : List ℕ) → IsWellFormed σ.shape → refusal σ.shape (Track u false) ≡ None → (tracked_step σ (Track u false)).after ≡ record σ { shape = ended σ.shape u }

-- a shape without logs has good ones
abbrev pub UntrackedIsGood : Type 0
UntrackedIsGood = (s : Shape) → AreUntracked s → AreGoodLogs s
