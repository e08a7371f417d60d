-- What the parts of a run do (this project's format): a line is read into a buffer, it is stepped, and its reply goes
-- out.
use Rattle.std.specs.Prelude.{◌≡◌, ◌+◌, ◌==◌, ◌&&◌, not, ⊤, ℕ, Bool, true, List, [], ◌∷◌, ◌++◌, map, length, take, Option, Result, Ok, Err, OnOk, IfOk}
use Rattle.sm_base.specs.declared.faults.Failed.{Failed}
use Rattle.sm_disk.specs.Streams.{Takes, Adds, AddsFront}
use Rattle.sm_machine.specs.declared.replies.Reply.{Reply}
use Rattle.sm_machine.specs.Disks.{Disk}
use Rattle.sm_machine.specs.Lines.{line_limit}
use Rattle.sm_machine.specs.Replies.{printed}
use Rattle.sm_machine.specs.Runs.{Turn, taken, settles, face}
use Rattle.sm_machine.specs.Steps.{State}
use Rattle.sm_run.specs.Between.{IsBetween, IsSettledAs}
use Rattle.sm_run.specs.Runs.{IsSpared, IsSpent}
use Rattle.sm_run.specs.declared.reading.Ending.{Ending}
use Rattle.sm_run.specs.declared.reading.Ending.TheVariants.{Newline, ScriptEnd, PastLimit}
use Rattle.sm_run.specs.declared.runs.RunFault.{RunFault}
use Rattle.sm_run.specs.declared.runs.RunFault.TheVariants.{Device, Source, Sink, TooLong}
use Rattle.sm_run.specs.declared.steps.StepFault.{StepFault}

-- what the buffer keeps of a line: one byte more than a line may have
unfoldable pub front_of : List ℕ → List ℕ
front_of line = take (line_limit + 1) line

-- none of these bytes ends a line
unfoldable pub is_in_line : List ℕ → Bool
is_in_line [] = true
is_in_line (b ∷ bytes) = not (b == 10) && is_in_line bytes

-- what came behind the bytes of a line, where `room` bytes more might be read before and `room'` after it
abbrev pub HasEnded : Result Ending Failed → List ℕ → Option (List ℕ) → Option (List ℕ) → ℕ → ℕ → Type 0
HasEnded (Ok Newline) bytes had left room room' = Takes had (bytes ++ 10 ∷ []) left × (room' + (length bytes + 1) ≡ room)
HasEnded (Ok ScriptEnd) bytes had left room room' = Takes had bytes left × (room' + length bytes ≡ room) × IsSpent left
HasEnded (Ok PastLimit) bytes had left room room' = (b : ℕ) × Takes had (bytes ++ b ∷ []) left × (length bytes ≡ room)
HasEnded (Err _) bytes had left room room' = Takes had bytes left × (room' + length bytes ≡ room)

-- a line was read, or a part of it
pub record HasRead (result : Result Ending Failed) (had left : Option (List ℕ)) (room room' : ℕ) (buffer : List ℕ) : Type 0 where
  pub bytes : List ℕ
  pub in_line : is_in_line bytes ≡ true
  pub kept : buffer ≡ front_of bytes
  pub ends : HasEnded result bytes had left room room'

-- a line as a turn
abbrev pub turn_of : List ℕ → Bool → Turn
turn_of line poor = record { line = line; poor = poor }

-- a line was stepped: what the machine and what a stop may leave are then
pub record HasStepped (σ σ' : State) (line : List ℕ) (result : Result Reply StepFault) (before after : List Disk → Type 0) (is_ready is_kept : Type 0) : Type 0 where
  pub poor : Bool
  pub spared : IsSpared σ (turn_of line poor)
  pub reply : IfOk result (λ r. r ≡ (taken σ (turn_of line poor)).reply)
  pub state : OnOk result (σ' ≡ (taken σ (turn_of line poor)).after)
  pub ready : OnOk result is_ready
  pub kept : is_kept
  pub crash : (ds : List Disk) → after ds → IsBetween before σ.disks ((taken σ (turn_of line poor)).after).disks ds
  pub faces : OnOk result ((ds : List Disk) → after ds → map face ds ≡ map face ((taken σ (turn_of line poor)).after).disks)
  pub settled : OnOk result (settles σ (turn_of line poor) ≡ true → (ds : List Disk) → after ds → IsSettledAs ((taken σ (turn_of line poor)).after).disks ds)

-- what went out of a reply
abbrev pub HasReplied : Result ⊤ RunFault → List ℕ → Option (List ℕ) → Option (List ℕ) → Type 0
HasReplied (Ok _) text had got = Adds had text got
HasReplied (Err Device) text had got = Adds had [] got
HasReplied (Err Sink) text had got = AddsFront had text got
HasReplied (Err Source) text had got = ⊥
HasReplied (Err TooLong) text had got = ⊥

-- what holds unless the device failed
abbrev pub UnlessDevice : Result ⊤ RunFault → Type 0 → Type 0
UnlessDevice (Err Device) P = ⊤
UnlessDevice _ P = P

-- a line was stepped and answered
pub record HasAnswered (σ σ' : State) (line : List ℕ) (result : Result ⊤ RunFault) (had got : Option (List ℕ)) (before after : List Disk → Type 0) (is_ready is_kept : Type 0) : Type 0 where
  pub poor : Bool
  pub spared : IsSpared σ (turn_of line poor)
  pub replied : HasReplied result (printed (taken σ (turn_of line poor)).reply) had got
  pub state : UnlessDevice result (σ' ≡ (taken σ (turn_of line poor)).after)
  pub ready : UnlessDevice result is_ready
  pub kept : is_kept
  pub crash : (ds : List Disk) → after ds → IsBetween before σ.disks ((taken σ (turn_of line poor)).after).disks ds
  pub faces : UnlessDevice result ((ds : List Disk) → after ds → map face ds ≡ map face ((taken σ (turn_of line poor)).after).disks)
  pub settled : UnlessDevice result (settles σ (turn_of line poor) ≡ true → (ds : List Disk) → after ds → IsSettledAs ((taken σ (turn_of line poor)).after).disks ds)
