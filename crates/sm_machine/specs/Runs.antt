-- A run of the machine over the lines of a script (this project's format): the replies, the state after each line, and
-- what a device may show after a stop. A line that found no memory is answered so and leaves the machine as it was;
-- which lines did is handed in, since nothing in the machine decides it.
use Rattle.std.specs.Prelude.{◌≡◌, ℕ, Bool, true, false, List, [], ◌∷◌, ◌++◌, map, length, Option, Some, None}
use Rattle.std.specs.List.{slice_get}
use Rattle.sm_base.specs.declared.refusals.Refusal.TheVariants.{NoMemory}
use Rattle.sm_machine.specs.declared.commands.Command.{Command}
use Rattle.sm_machine.specs.declared.commands.Command.TheVariants.{Create, Delete, Attach, Detach, Snapshot, Clone, Resize, Label, Write, Fill, Flush, Track}
use Rattle.sm_machine.specs.declared.replies.Reply.{Reply}
use Rattle.sm_machine.specs.declared.replies.Reply.TheVariants as reply
use Rattle.sm_machine.specs.Lines.{spelled}
use Rattle.common_laws.specs.Lists.{In}
use Rattle.sm_machine.specs.Replies.{printed}
use Rattle.sm_machine.specs.Disks.{Disk}
use Rattle.sm_machine.specs.Steps.{State, Outcome, refused}
use Rattle.sm_machine.specs.Tracking.{step_line}

-- one line of a run: its bytes, and whether it was answered with want of memory
pub record Turn : Type 0 where
  pub line : List ℕ
  pub poor : Bool

-- what a turn gives
unfoldable pub taken : State → Turn → Outcome
taken σ t = elim t.poor [ true ↦ refused σ NoMemory | false ↦ step_line σ t.line ]

-- the machine after a run
unfoldable pub after_run : State → List Turn → State
after_run σ [] = σ
after_run σ (t ∷ turns) = after_run ((taken σ t).after) turns

-- the text of the replies to a run
unfoldable pub replies : State → List Turn → List ℕ
replies σ [] = []
replies σ (t ∷ turns) = printed ((taken σ t).reply) ++ replies ((taken σ t).after) turns

-- whether a step of the command may want memory
unfoldable pub takes_memory : Command → Bool
takes_memory (Delete u) = false
takes_memory (Detach u) = false
takes_memory (Label u text) = false
takes_memory (Write u sector bytes) = false
takes_memory (Fill u sector count byte) = false
takes_memory (Flush u) = false
takes_memory (Track u on) = on
takes_memory _ = true

-- the turns of a script of which each line finds memory
abbrev pub ample : List (List ℕ) → List Turn
ample script = map (λ line. record { line = line; poor = false }) script

-- ---- what a stop may leave

-- whether a reply accepts its line
unfoldable pub is_accepted : Reply → Bool
is_accepted (reply.No r) = false
is_accepted _ = true

-- a flush, or a command that changes more than sectors
unfoldable pub is_settling : Command → Bool
is_settling (Create u size raw label) = true
is_settling (Delete u) = true
is_settling (Attach u mode) = true
is_settling (Detach u) = true
is_settling (Snapshot u twin) = true
is_settling (Clone u twin) = true
is_settling (Resize u size) = true
is_settling (Label u text) = true
is_settling (Flush u) = true
is_settling (Track u on) = true
is_settling _ = false

abbrev pub some_settling : Option Command → Bool
some_settling None = false
some_settling (Some c) = is_settling c

-- whether a turn settles all that was written: an accepted flush or changing command
unfoldable pub settles : State → Turn → Bool
settles σ t = elim (is_accepted ((taken σ t).reply)) [ true ↦ some_settling (spelled t.line) | false ↦ false ]

-- the states that a sector may still be from: a settling turn leaves its own, another turn adds one
abbrev pub trail_more : List State → State → Bool → List State
trail_more trail new true = new ∷ []
trail_more trail new false = trail ++ new ∷ []

-- the trail of a run that began in this state with this trail
unfoldable pub trail_after : State → List State → List Turn → List State
trail_after σ trail [] = trail
trail_after σ trail (t ∷ turns) = trail_after ((taken σ t).after) (trail_more trail ((taken σ t).after) (settles σ t)) turns

-- the trail from the last acknowledged flush or changing command to the end of a run
abbrev pub trail_of : State → List Turn → List State
trail_of σ turns = trail_after σ (σ ∷ []) turns

-- what is told of a disk beside its sectors
pub record Face : Type 0 where
  pub uuid : List ℕ
  pub label : List ℕ
  pub origin : Option (List ℕ)
  pub read_only : Bool
  pub size : ℕ

-- what a disk is, but for its sectors
abbrev pub face : Disk → Face
face d = record { uuid = d.uuid; label = d.label; origin = d.origin; read_only = d.read_only; size = length d.sectors }

-- a disk has these bytes in its k-th sector
pub record HasSector (disks : List Disk) (u : List ℕ) (k : ℕ) (bytes : List ℕ) : Type 0 where
  pub disk : Disk
  pub is_there : In disk disks
  pub is_named : disk.uuid ≡ u
  pub holds : slice_get disk.sectors k ≡ Some bytes

-- the disks are those of a state, and each sector is one that it was in some state of a trail
pub record IsFrom (trail : List State) (last : State) (disks : List Disk) : Type 0 where
  pub faces : map face disks ≡ map face last.disks
  pub sectors : (u : List ℕ) (k : ℕ) (bytes : List ℕ) → HasSector disks u k bytes → (σ : State) × In σ trail × HasSector σ.disks u k bytes

-- the disks after some prefix of a run that reaches at least the last acknowledged flush or changing command
unfoldable pub IsAsAfter : State → List Turn → List Disk → Type 0
IsAsAfter σ turns disks = IsFrom (trail_of σ turns) (after_run σ turns) disks

-- the disks as after a run, where one more line may have been taken, whose reply is not yet acknowledged
unfoldable pub IsAsDuring : State → List Turn → Turn → List Disk → Type 0
IsAsDuring σ turns t disks = let new : State = (taken (after_run σ turns) t).after in IsFrom (trail_of σ turns ++ new ∷ []) new disks
