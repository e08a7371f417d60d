-- Which pieces of a disk the lines of a run reached, and what the logs tell of two snapshots that were made in one run.
use Rattle.std.specs.Prelude.{◌≡◌, ◌≢◌, ℕ, ◌/◌, ◌==◌, ◌&&◌, Bool, true, false, List, [], ◌∷◌, ◌++◌, length, Option, Some, None}
use Rattle.std.specs.List.{list_any}
use Rattle.std.specs.Str.{bytes_eq}
use Rattle.common_laws.specs.Lists.{In}
use Rattle.sm_log.specs.Logs.{bit, changed, pieces_touched}
use Rattle.sm_machine.specs.declared.commands.Command.{Command}
use Rattle.sm_machine.specs.declared.commands.Command.TheVariants.{Fill, Snapshot, Write}
use Rattle.sm_machine.specs.Disks.{sector_bytes}
use Rattle.sm_machine.specs.Lines.{spelled}
use Rattle.sm_machine.specs.Refusals.{is_snapshot, new_uuid}
use Rattle.sm_machine.specs.Runs.{Turn, after_run, is_accepted, taken}
use Rattle.sm_machine.specs.Shapes.{Shape}
use Rattle.sm_machine.specs.Steps.{State}
use Rattle.sm_machine.specs.Tracking.{AreGoodLogs, AreOfSnapshots}
use Rattle.sm_machine.specs.WellFormed.{IsWellFormed}

-- ---- the commands of a run that were accepted

-- the command that a line spells, where it was accepted
abbrev pub if_accepted : Bool → Option Command → List Command
if_accepted true (Some c) = c ∷ []
if_accepted _ _ = []

-- the commands of a run that were accepted, in their order
unfoldable pub accepted_in : State → List Turn → List Command
accepted_in σ [] = []
accepted_in σ (t ∷ turns) = if_accepted (is_accepted ((taken σ t).reply)) (spelled t.line) ++ accepted_in ((taken σ t).after) turns

-- whether a command writes or fills sectors in this piece of a disk
abbrev pub reaches : List ℕ → ℕ → Command → Bool
reaches d piece (Write u sector bytes) = bytes_eq u d && list_any (λ k. k == piece) (pieces_touched sector (length bytes / sector_bytes))
reaches d piece (Fill u sector count byte) = bytes_eq u d && list_any (λ k. k == piece) (pieces_touched sector count)
reaches d piece _ = false

-- none of these commands makes a disk of this UUID
abbrev pub MakesNone : List ℕ → List Command → Type 0
MakesNone u commands = (c : Command) → In c commands → new_uuid c ≢ Some u

-- ---- what logs tell of two snapshots

-- of these commands one made u and a later one made n, both snapshots of d, with others between the two; neither was made again
pub record AreSnapshotsOf (d u n : List ℕ) (between commands : List Command) : Type 0 where
  pub front : List Command
  pub rest : List Command
  pub order : commands ≡ front ++ (Snapshot d u ∷ (between ++ (Snapshot d n ∷ rest)))
  pub earlier : MakesNone u (between ++ (Snapshot d n ∷ rest))
  pub later : MakesNone n rest

-- a run made two snapshots of one disk: where the logs lead from the later one back to the earlier one, each piece that is told was
-- reached by an accepted write or fill of that disk between the two
abbrev pub NamesReached : State → List Turn → Type 0
NamesReached σ turns = (d u n : List ℕ) (between : List Command) (pieces piece : ℕ) (bits : List Bool)
    → AreSnapshotsOf d u n between (accepted_in σ turns)
    → changed pieces u n (after_run σ turns).shape.logs ≡ Some bits → bit bits piece ≡ true
    → list_any (reaches d piece) between ≡ true

-- each run names no piece that none of its lines reached, whatever logs there were as it began
abbrev pub ChangedIsReached : Type 0
ChangedIsReached = (σ : State) (turns : List Turn) → IsWellFormed σ.shape → AreGoodLogs σ.shape → AreOfSnapshots σ.shape → NamesReached σ turns

-- a disk that is no snapshot, as a run begins, and that none of the run's commands makes as one
pub record IsNoSnapshot (d : List ℕ) (s : Shape) (commands : List Command) : Type 0 where
  pub begins : is_snapshot d s ≡ false
  pub made : (u : List ℕ) → ¬ In (Snapshot u d) commands

-- the other way round nothing is told: the logs do not lead from a snapshot of a disk back to a later one of it
abbrev pub NotLedBack : State → List Turn → Type 0
NotLedBack σ turns = (d u n : List ℕ) (between : List Command) (pieces : ℕ)
    → AreSnapshotsOf d n u between (accepted_in σ turns) → IsNoSnapshot d σ.shape (accepted_in σ turns)
    → changed pieces u n (after_run σ turns).shape.logs ≡ None

-- no run leads back from a snapshot of a disk to a later one of it
abbrev pub BackIsNotTold : Type 0
BackIsNotTold = (σ : State) (turns : List Turn) → IsWellFormed σ.shape → AreGoodLogs σ.shape → AreOfSnapshots σ.shape → NotLedBack σ turns

-- ---- a run and its lines

-- behind each line of a run: of two snapshots of one disk that were made by then no piece is told that was not reached, and nothing is
-- told the other way round, where the disk is no snapshot
abbrev pub NamesNoMore : State → List Turn → Type 0
NamesNoMore σ turns = (front rest : List Turn) → turns ≡ front ++ rest → NamesReached σ front × NotLedBack σ front
