-- A run over a script (this project's format): which lines were read, which of them were answered, and what the sink
-- got. A script is read line by line, and each line's reply goes out whole before the next byte is read. So at every
-- return all lines that were read whole are answered, but for the last one where its step or its reply failed.
use Rattle.std.specs.Prelude.{◌≡◌, ◌≢◌, ◌≤◌, ◌^◌, ◌+◌, ◌==◌, ◌⊎◌, ⊤, ℕ, Bool, true, false, nat_lt, List, [], ◌∷◌, ◌++◌, map, length, take, Option, None, Some, IfSome, Result, Ok, Err}
use Rattle.sm_base.specs.declared.operations.Plan.{Plan}
use Rattle.sm_base.specs.declared.operations.Plan.TheVariants as plan
use Rattle.sm_disk.specs.Streams.{Takes, Adds}
use Rattle.sm_machine.specs.Collector.{next_step}
use Rattle.sm_machine.specs.declared.commands.Command.{Command}
use Rattle.sm_machine.specs.declared.commands.Command.TheVariants.{Gc, Resize}
use Rattle.sm_machine.specs.Disks.{Disk}
use Rattle.sm_machine.specs.Lines.{lines, spelled}
use Rattle.sm_machine.specs.Refusals.{need, refusal}
use Rattle.sm_machine.specs.Runs.{Turn, taken, after_run, replies, takes_memory, IsAsAfter, IsAsDuring}
use Rattle.sm_machine.specs.Shapes.{Shape}
use Rattle.sm_machine.specs.Steps.{State}
use Rattle.sm_run.specs.Between.{IsSettledAs}
use Rattle.sm_run.specs.declared.runs.RunFault.{RunFault}
use Rattle.sm_run.specs.declared.runs.RunFault.TheVariants.{Device, Source, Sink, TooLong}

-- the most bytes of a script
abbrev pub script_limit : ℕ
script_limit = 2 ^ 40

-- a byte in front of the lines that follow it, where what no newline ends is no line
abbrev pub onto_ended : Bool → ℕ → List (List ℕ) → List (List ℕ)
onto_ended true b lines = [] ∷ lines
onto_ended false b [] = []
onto_ended false b (line ∷ lines) = (b ∷ line) ∷ lines

-- the lines of a script that a newline ends (0a hex): what stands behind its last newline is left out
unfoldable pub ended : List ℕ → List (List ℕ)
ended [] = []
ended (b ∷ bytes) = onto_ended (b == 10) b (ended bytes)

-- the lines of turns
abbrev pub lines_of : List Turn → List (List ℕ)
lines_of turns = map (λ t. t.line) turns

-- nothing is left, where that is told
abbrev pub IsSpent : Option (List ℕ) → Type 0
IsSpent content = IfSome content (λ left. left ≡ [])

-- a step of the collector begins to fold an image into its parent
unfoldable pub begins : Plan → Bool
begins (plan.Begin child parent to) = true
begins (plan.Leaf leaf parent to) = true
begins (plan.Live leaf parent to) = true
begins _ = false

-- Whether want of memory may take the place of a command's answer in this shape: of a step of the collector only where it begins to fold
-- an image, of a resize only where the disk needs extents for it, and of any other command where its step takes memory.
unfoldable pub may_want_memory : Shape → Command → Bool
may_want_memory s Gc = begins (next_step s)
may_want_memory s (Resize u size) = nat_lt 0 (need s (Resize u size))
may_want_memory s c = takes_memory c

-- A line to which memory was wanting spells a command that no cause refuses in this state, and whose answer want of memory may
-- take the place of.
abbrev pub IsSpared : State → Turn → Type 0
IsSpared σ t = t.poor ≡ true → (c : Command) × (spelled t.line ≡ Some c) × (refusal σ.shape c ≡ None) × (may_want_memory σ.shape c ≡ true)

-- so it is of each turn of a run, with the state in front of it
unfoldable pub AreSpared : State → List Turn → Type 0
AreSpared σ [] = ⊤
AreSpared σ (t ∷ turns) = IsSpared σ t × AreSpared ((taken σ t).after) turns

-- the script was read to its end, and every line of it was answered
pub record IsReadToEnd (bytes : List ℕ) (turns pending : List Turn) (left : Option (List ℕ)) : Type 0 where
  pub within : length bytes ≤ script_limit
  pub answered : lines bytes ≡ lines_of turns
  pub none_pending : pending ≡ []
  pub at_end : IsSpent left

-- reading was given up, and every line that a newline had ended was answered
pub record IsGivenUp (bytes : List ℕ) (turns pending : List Turn) : Type 0 where
  pub within : length bytes ≤ script_limit
  pub answered : ended bytes ≡ lines_of turns
  pub none_pending : pending ≡ []

-- the source gave a byte past the most of a script, and every line that a newline had ended before was answered
pub record IsPast (bytes : List ℕ) (turns pending : List Turn) : Type 0 where
  pub past : length bytes ≡ script_limit + 1
  pub answered : ended (take script_limit bytes) ≡ lines_of turns
  pub none_pending : pending ≡ []

-- the last line that was read whole did not get its whole reply, all earlier ones did
pub record IsCutShort (bytes : List ℕ) (turns pending : List Turn) (left : Option (List ℕ)) : Type 0 where
  pub last : Turn
  pub is_pending : pending ≡ last ∷ []
  pub within : length bytes ≤ script_limit
  pub answered : lines bytes ≡ lines_of turns ++ last.line ∷ []
  pub whole : (ended bytes ≡ lines bytes) ⊎ IsSpent left

-- how far a run came, by its result
abbrev pub HowFar : Result ⊤ RunFault → List ℕ → List Turn → List Turn → ℕ → Option (List ℕ) → Type 0
HowFar (Ok _) bytes turns pending sent left = IsReadToEnd bytes turns pending left
HowFar (Err Device) bytes turns pending sent left = IsCutShort bytes turns pending left × (sent ≡ 0)
HowFar (Err Source) bytes turns pending sent left = IsGivenUp bytes turns pending
HowFar (Err Sink) bytes turns pending sent left = IsCutShort bytes turns pending left
HowFar (Err TooLong) bytes turns pending sent left = IsPast bytes turns pending

-- the disks after the turns, or where a turn is pending perhaps after that one
abbrev pub MayLeave : State → List Turn → List Turn → List Disk → Type 0
MayLeave σ turns [] disks = IsAsAfter σ turns disks
MayLeave σ turns (t ∷ _) disks = IsAsAfter σ turns disks ⊎ IsAsDuring σ turns t disks

-- a stop as the run begins leaves these disks alone
abbrev pub BeginsSettled : State → (List Disk → Type 0) → Type 0
BeginsSettled σ leaves = (disks : List Disk) → leaves disks → IsSettledAs σ.disks disks

-- What a run did that began in a state, by its result: with what the source had left and the sink held before and
-- after it, and with the machine's state after it, what a stop leaves then, and whether it is ready and kept.
pub record HasRun (σ σ' : State) (result : Result ⊤ RunFault) (had_left left had_got got : Option (List ℕ)) (may_leave : List Disk → Type 0) (is_ready is_kept : Type 0) : Type 0 where
  -- what was read
  pub bytes : List ℕ
  -- the lines whose replies went out whole
  pub turns : List Turn
  -- the line read whole whose reply did not: one or none
  pub pending : List Turn
  -- how many bytes of that reply went out
  pub sent : ℕ
  pub takes : Takes had_left bytes left
  pub adds : Adds had_got (replies σ turns ++ take sent (replies (after_run σ turns) pending)) got
  pub how_far : HowFar result bytes turns pending sent left
  pub state : result ≢ Err Device → σ' ≡ after_run σ (turns ++ pending)
  pub leaves : (disks : List Disk) → may_leave disks → MayLeave σ turns pending disks
  pub ready : result ≢ Err Device → is_ready
  pub kept : is_kept
  pub spared : AreSpared σ (turns ++ pending)
