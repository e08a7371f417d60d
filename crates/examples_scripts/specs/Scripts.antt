-- Scripts with their replies, each on a new repository of 64 extents of 16 KiB, of which the volume of records has 16,
-- with blocks of 4 KiB and tables of 64 entries.
use Rattle.std.specs.Prelude.{◌≡◌, ℕ, zero, suc, List, [], ◌∷◌, ◌++◌, map}
use Rattle.sm_machine.specs.Operations as op
use Rattle.sm_machine.specs.Replies.{printed}
use Rattle.sm_machine.specs.Steps.{State, Outcome}
use Rattle.sm_machine.specs.Tracking.{step_line}

-- a line and the text of its reply, without newlines
pub record Line : Type 0 where
  pub asked : List ℕ
  pub answer : List ℕ

abbrev pub line : List ℕ → List ℕ → Line
line asked answer = record { asked = asked; answer = answer }

-- a text so many times over
abbrev pub pairs : ℕ → List ℕ → List ℕ
pairs zero text = []
pairs (suc n) text = text ++ pairs n text

abbrev pub Script : Type 0
Script = List Line

-- a new repository
abbrev pub new : State
new = record { disks = []; shape = record { sequence = 1; extent = 32; block = 8; entries = 64; extents = 64; others = 16; records = []; images = []; logs = []; attached = []; op = op.Idle } }

-- the replies to lines, and the state after them
abbrev pub told : State → Script → List (List ℕ)
told σ [] = []
told σ (l ∷ lines) = let o : Outcome = step_line σ l.asked in printed o.reply ∷ told o.after lines

abbrev pub after : State → Script → State
after σ [] = σ
after σ (l ∷ lines) = after ((step_line σ l.asked).after) lines

-- each line is answered as the script says
abbrev pub IsAnswered : State → Script → Type 0
IsAnswered σ lines = told σ lines ≡ map (λ l. l.answer ++ 10 ∷ []) lines

-- a repository opened again after its sequence number was set to 2^48 - 16: no disk is attached, and no operation runs
abbrev pub spent_from : State → State
spent_from σ = record { disks = σ.disks; shape = record σ.shape { sequence = 281474976710640; attached = []; op = op.Idle } }
